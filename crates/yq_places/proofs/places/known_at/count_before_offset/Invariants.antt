use Rattle.std.proofs.Common.{◌≡◌, ◌-◌, ◌≤◌, length, take}
use Rattle.yq_row_table.{specs.Rows.Cut, specs.View.rows_view}
use Rattle.yq_places.specs.RowWalk.{StayKnown}
use Rattle.yq_places.proofs.places.known_at.count_before_offset.Given as goal

abbrev pub decreases-items : goal.decreases-items
decreases-items l = length l.known - l.count

-- so many of the first items stay known
abbrev pub invariant-items : goal.invariant-items
invariant-items l = record {
  within : l.count ≤ length l.known;
  stay : (c : Cut) → l.rows ≡ rows_view c → StayKnown l.front c (take l.count l.known);
}
