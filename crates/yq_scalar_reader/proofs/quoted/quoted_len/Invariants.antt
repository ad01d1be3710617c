use Rattle.std.proofs.Common.{◌≡◌, ◌+◌, length}
use Rattle.yq_core.specs.Answers.{more}
use Rattle.yq_core.specs.QuotedReading as spec
use Rattle.yq_scalar_reader.proofs.quoted.quoted_len.Given as goal

abbrev pub decreases-each : goal.decreases-each
decreases-each l = length l.rest

abbrev pub invariant-each : goal.invariant-each
invariant-each l = record { within : l.n + length l.rest ≡ length l.text; so_far : more l.n (spec.quoted_len l.quote 0 l.rest) ≡ spec.quoted_len l.quote 0 l.text }
