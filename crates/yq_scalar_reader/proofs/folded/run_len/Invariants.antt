use Rattle.std.proofs.Common.{◌≡◌, ◌+◌, length}
use Rattle.yq_core.{specs.Text.upto, specs.ContentReading.ends_run}
use Rattle.yq_scalar_reader.proofs.folded.run_len.Given as goal

abbrev pub decreases-each : goal.decreases-each
decreases-each l = length l.rest

abbrev pub invariant-each : goal.invariant-each
invariant-each l = record { within : l.n + length l.rest ≡ length l.text; so_far : l.n + upto (ends_run l.quote) l.rest ≡ upto (ends_run l.quote) l.text }
