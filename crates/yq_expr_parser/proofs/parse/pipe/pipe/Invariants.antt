use Rattle.std.{proofs.Common.{◌≡◌, ◌≤◌, length, map}, specs.Prelude.codes}
use denote.Text.{Utf8}
use denote.Shadow.{shadow}
use Rattle.yq_expr_parser.{specs.Lexing.tokens, specs.Parse.{parted_at, stage_at, pipe_at}, proofs.LoopSteps.onto}
use Rattle.yq_semantics.specs.View.{stage_of}
use Rattle.yq_expr_parser.proofs.parse.pipe.pipe.Given as goal

abbrev pub invariant-stages : goal.invariant-stages
invariant-stages l =
    shadow (Utf8 l.rest) × (length l.rest ≤ length l.text)
    × (onto (map stage_of l.found.items) (parted_at (codes "|") stage_at (tokens l.rest)) ≡ pipe_at (tokens l.text))

abbrev pub decreases-stages : goal.decreases-stages
decreases-stages l = length l.rest
