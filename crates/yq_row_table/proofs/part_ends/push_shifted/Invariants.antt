use Rattle.std.proofs.Common.{◌≡◌, ◌+◌, ◌-◌, ◌≤◌, ◌++◌, length, map, take, vec_len, vec_capacity}
use Rattle.yq_row_table.specs.PartEnds.{shifted}
use Rattle.yq_row_table.proofs.part_ends.push_shifted.Given as goal

abbrev pub invariant-ends : goal.invariant-ends
invariant-ends l = record {
  same : l.ends.items ≡ l.fn.ends.items ++ map (shifted l.by) (take l.i l.found);
  room : vec_len l.ends + (length l.found - l.i) ≤ vec_capacity l.ends;
}
