use Rattle.std.proofs.Common.{◌≡◌, ◌+◌, ◌-◌, ◌≤◌, ◌++◌, length, map, take, vec_len, vec_capacity}
use Rattle.yq_row_table.specs.Kept.{kept_rows, placed_rows, raised}
use Rattle.yq_rows.proofs.exchanging.push_rows.Given as goal

abbrev pub invariant-rows : goal.invariant-rows
invariant-rows l = record {
  same : l.rows.items ≡ l.fn.rows.items ++ map (raised l.by) (take l.i (placed_rows l.len l.found));
  room : vec_len l.rows + (length (kept_rows l.found) - l.i) ≤ vec_capacity l.rows;
}
