use Rattle.std.proofs.Common.{◌≡◌, ◌++◌, length, string_bytes}
use denote.Text.{Utf8}
use denote.Shadow.{shadow}
use Rattle.yq_expr_parser.specs.Lexing.{string_content}
use Rattle.yq_expr_parser.proofs.token.unescape.content.Given as goal

abbrev pub invariant-runs : goal.invariant-runs
invariant-runs l = shadow (Utf8 l.rest) × (string_bytes l.out ++ string_content l.rest ≡ string_content l.text)

abbrev pub decreases-runs : goal.decreases-runs
decreases-runs l = length l.rest
