use Rattle.std.proofs.Common.{◌≡◌, length}
use Rattle.yq_core.specs.PlainText.{no_rest, needs_quotes}
use Rattle.yq_scalar_reader.proofs.plain_text.needs_no_quotes.Given as goal

abbrev pub decreases-each : goal.decreases-each
decreases-each l = length l.rest

abbrev pub invariant-each : goal.invariant-each
invariant-each l = no_rest (needs_quotes l.flow) l.rest ≡ no_rest (needs_quotes l.flow) l.text
