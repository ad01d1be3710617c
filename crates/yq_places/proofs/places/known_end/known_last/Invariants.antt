use Rattle.yq_outline.{specs.RowWalk.IsKnown, proofs.KnownLaws.moved_to}
use Rattle.yq_places.proofs.places.known_end.known_last.Given as goal

-- the last row is known, and so many items are passed before this one
abbrev pub invariant-rows : goal.invariant-rows
invariant-rows l = record {
  last : IsKnown l.rows.rows l.last;
  here : IsKnown l.rows.rows (moved_to l.known l.index l.row);
}
