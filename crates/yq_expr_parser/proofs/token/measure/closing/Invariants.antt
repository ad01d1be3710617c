use Rattle.std.proofs.Common.{◌≡◌, ◌+◌, length}
use Rattle.yq_expr_parser.specs.Lexing.{beyond, closing}
use Rattle.yq_expr_parser.proofs.token.measure.closing.Given as goal

abbrev pub invariant-bytes : goal.invariant-bytes
invariant-bytes l = record { within : l.len + length l.rest ≡ length l.text; so_far : beyond l.foreign l.len (closing l.rest) ≡ closing l.text }

abbrev pub decreases-bytes : goal.decreases-bytes
decreases-bytes l = length l.rest
