use Rattle.std.proofs.Common.{◌≡◌, ◌+◌, ◌≤◌, length, false}
use denote.Text.{Utf8}
use denote.Shadow.{shadow}
use Rattle.yq_expr_parser.{specs.Lexing.tokens, specs.Parse.surveyed}
use Rattle.yq_expr_parser.proofs.survey.survey.Given as goal

abbrev pub invariant-tokens : goal.invariant-tokens
invariant-tokens l =
    shadow (Utf8 l.rest) × (l.opened + length l.rest ≤ length l.text) × (l.closed + length l.rest ≤ length l.text)
    × (surveyed l.other l.opened l.closed (tokens l.rest) ≡ surveyed false 0 0 (tokens l.text))

abbrev pub decreases-tokens : goal.decreases-tokens
decreases-tokens l = length l.rest
