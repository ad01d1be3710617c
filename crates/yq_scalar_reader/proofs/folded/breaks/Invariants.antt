use Rattle.std.proofs.Common.{◌≡◌, ◌≤◌, ◌+◌, length}
use Rattle.yq_core.specs.ContentReading as spec
use Rattle.yq_scalar_reader.proofs.folded.breaks.Given as goal

abbrev pub decreases-each : goal.decreases-each
decreases-each l = length l.rest

abbrev pub invariant-each : goal.invariant-each
invariant-each l = record { within : l.n + length l.rest ≤ length l.text; so_far : l.n + spec.breaks l.rest ≡ spec.breaks l.text }
