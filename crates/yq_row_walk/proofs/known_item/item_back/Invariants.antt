use Rattle.std.proofs.Common.{◌≤◌}
use Rattle.yq_outline.{specs.RowWalk.IsKnown, proofs.KnownLaws.moved_to}
use Rattle.yq_row_walk.proofs.known_item.item_back.Given as goal

abbrev pub decreases-rows : goal.decreases-rows
decreases-rows l = l.row

-- so many items are passed before this row
abbrev pub invariant-rows : goal.invariant-rows
invariant-rows l = record {
  known : IsKnown l.rows.rows (moved_to l.known l.at l.row);
  upto : l.row ≤ l.known.row;
}
