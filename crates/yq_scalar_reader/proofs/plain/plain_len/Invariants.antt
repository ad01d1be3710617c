use Rattle.std.proofs.Common.{◌≡◌, ◌+◌, length}
use Rattle.yq_core.{specs.Text.upto, specs.Plain.ends_plain}
use Rattle.yq_scalar_reader.proofs.plain.plain_len.Given as goal

abbrev pub decreases-each : goal.decreases-each
decreases-each l = length l.rest

abbrev pub invariant-each : goal.invariant-each
invariant-each l = record { within : l.n + length l.rest ≡ length l.text; so_far : l.n + upto (ends_plain l.flow l.spaces) l.rest ≡ upto (ends_plain l.flow l.spaces) l.text }
