use Rattle.std.proofs.Common.{rules}
use Rattle.yq_journal.proofs.MatchingLaws.{ends_alike}
use Rattle.yq_journal.proofs.applies.stands_before.Goals as goal

pub returns-then-text-patch : goal.returns-then-text-patch
returns-then-text-patch c = search (rules, ends_alike)
