use Rattle.std.proofs.Common.{◌≡◌, ◌≤◌, length}
use Rattle.yq_row_table.specs.PartEnds.{both_ends}
use Rattle.yq_row_table.proofs.part_ends.to_front.Given as goal

abbrev pub invariant-ends : goal.invariant-ends
invariant-ends l = record {
  same : both_ends l.shift l.front.items l.after.items ≡ both_ends l.fn.shift l.fn.front.items l.fn.after.items;
  few : length l.front.items ≤ l.at;
}

abbrev pub decreases-ends : goal.decreases-ends
decreases-ends l = length l.after.items
