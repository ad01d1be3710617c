use Rattle.std.proofs.Common.{◌≡◌, ◌++◌, length, string_bytes}
use Rattle.yq_history.specs.ListedView.{backwards}
use Rattle.yq_history.proofs.listed_diffs.joined_back.Given as goal

abbrev pub invariant-texts : goal.invariant-texts
invariant-texts l = string_bytes l.joined ++ backwards l.texts.items ≡ backwards l.fn.texts.items

abbrev pub decreases-texts : goal.decreases-texts
decreases-texts l = length l.texts.items
