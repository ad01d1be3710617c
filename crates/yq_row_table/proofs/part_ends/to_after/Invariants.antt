use Rattle.std.proofs.Common.{◌≡◌, length}
use Rattle.yq_row_table.specs.PartEnds.{both_ends}
use Rattle.yq_row_table.proofs.part_ends.to_after.Given as goal

abbrev pub invariant-ends : goal.invariant-ends
invariant-ends l = both_ends l.fn.shift l.front.items l.after.items ≡ both_ends l.fn.shift l.fn.front.items l.fn.after.items

abbrev pub decreases-ends : goal.decreases-ends
decreases-ends l = length l.front.items
