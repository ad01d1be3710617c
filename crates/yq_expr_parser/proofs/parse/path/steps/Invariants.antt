use Rattle.std.proofs.Common.{◌≡◌, ◌<◌, ◌≤◌, vec_len, length, map}
use denote.Text.{Utf8}
use denote.Shadow.{shadow}
use Rattle.yq_expr_parser.{specs.Lexing.tokens, specs.Parse.{many, step_at}, proofs.LoopSteps.onto}
use Rattle.yq_semantics.specs.View.{program_step}
use Rattle.yq_expr_parser.proofs.parse.path.steps.Given as goal

abbrev pub invariant-steps : goal.invariant-steps
invariant-steps l =
    shadow (Utf8 l.rest) × (length l.rest ≤ length l.text) × (0 < vec_len l.steps → length l.rest < length l.text)
    × (onto (map program_step l.steps.items) (many step_at (tokens l.rest)) ≡ many step_at (tokens l.text))

abbrev pub decreases-steps : goal.decreases-steps
decreases-steps l = length l.rest
