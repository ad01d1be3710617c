use Rattle.std.proofs.Common.{◌≡◌, ◌+◌, length}
use Rattle.yq_outline.specs.Extents.{dash_at}
use Rattle.yq_row_walk.proofs.extent.dash_at.Given as goal

abbrev pub decreases-each : goal.decreases-each
decreases-each l = length l.rest

abbrev pub invariant-each : goal.invariant-each
invariant-each l = record { within : l.at + length l.rest ≡ length l.dashes; so_far : l.at + dash_at l.left l.rest ≡ dash_at l.count l.dashes }
