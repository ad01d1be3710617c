use Rattle.yq_outline.{specs.RowWalk.IsKnown, proofs.KnownLaws.moved_to}
use Rattle.yq_row_walk.proofs.known_key.item_after.Given as goal

-- so many items are passed before this row
abbrev pub invariant-rows : goal.invariant-rows
invariant-rows l = IsKnown l.rows.rows (moved_to l.known l.index l.row)
