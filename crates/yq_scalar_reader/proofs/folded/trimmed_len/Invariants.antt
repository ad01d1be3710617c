use Rattle.std.proofs.Common.{◌≤◌}
use Rattle.yq_scalar_reader.proofs.folded.trimmed_len.Given as goal

abbrev pub decreases-each : goal.decreases-each
decreases-each l = l.n

abbrev pub invariant-each : goal.invariant-each
invariant-each l = record { within : l.n ≤ l.len }
