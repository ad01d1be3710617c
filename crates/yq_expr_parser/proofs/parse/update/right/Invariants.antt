use Rattle.std.{proofs.Common.{◌≡◌, ◌≤◌, length, map}, specs.Prelude.codes}
use denote.Text.{Utf8}
use denote.Shadow.{shadow}
use Rattle.yq_semantics.{specs.Grammar.literal_depth, specs.View.term_of}
use Rattle.yq_expr_parser.{specs.Lexing.tokens, specs.Parse.{parted_at, term_at, right_at}, proofs.LoopSteps.onto}
use Rattle.yq_expr_parser.proofs.parse.update.right.Given as goal

abbrev pub invariant-terms : goal.invariant-terms
invariant-terms l =
    shadow (Utf8 l.rest) × (length l.rest ≤ length l.text)
    × (onto (map term_of l.found.items) (parted_at (codes "+") (term_at literal_depth) (tokens l.rest)) ≡ right_at literal_depth (tokens l.text))

abbrev pub decreases-terms : goal.decreases-terms
decreases-terms l = length l.rest
