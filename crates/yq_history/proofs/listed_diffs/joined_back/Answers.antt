use Rattle.std.proofs.Common.{append_assoc, rules}
use Rattle.yq_history.proofs.ListedLaws.{backwards_more}
use Rattle.yq_history.proofs.listed_diffs.joined_back.Goals as goal

pub texts-preserved : goal.texts-preserved
texts-preserved c = search (rules, append_assoc, backwards_more)
