use Rattle.std.proofs.Common.{◌≡◌, ◌+◌, length, true}
use Rattle.yq_core.{specs.Answers.more, specs.PlainReading.across}
use Rattle.yq_scalar_reader.proofs.plain.across.Given as goal

abbrev pub decreases-each : goal.decreases-each
decreases-each l = length l.rest

abbrev pub invariant-each : goal.invariant-each
invariant-each l = record { within : l.n + length l.rest ≡ length l.text; so_far : more l.n (across l.flow l.spaces l.deep l.rest) ≡ across l.flow l.spaces true l.text }
