use Rattle.std.proofs.Common.{◌-◌, ◌≤◌}
use Rattle.yq_places.proofs.places.steps.row_at_front.Given as goal

abbrev pub invariant-halves : goal.invariant-halves
invariant-halves l = (l.low ≤ l.high) × (l.high ≤ l.last)

abbrev pub decreases-halves : goal.decreases-halves
decreases-halves l = l.high - l.low
