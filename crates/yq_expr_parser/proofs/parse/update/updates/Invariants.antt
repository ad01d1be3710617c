use Rattle.std.{proofs.Common.{◌≡◌, ◌≤◌, length, map}, specs.Prelude.codes}
use denote.Text.{Utf8}
use denote.Shadow.{shadow}
use Rattle.yq_semantics.{specs.Grammar.literal_depth, specs.View.update_of}
use Rattle.yq_expr_parser.{specs.Lexing.tokens, specs.Parse.{parted_at, parse_update}, proofs.LoopSteps.onto}
use Rattle.yq_expr_parser.proofs.parse.update.updates.Given as goal

abbrev pub invariant-updates : goal.invariant-updates
invariant-updates l =
    shadow (Utf8 l.rest) × (length l.rest ≤ length l.text)
    × (onto (map update_of l.found.items) (parted_at (codes "|") (parse_update literal_depth) (tokens l.rest)) ≡ parted_at (codes "|") (parse_update literal_depth) (tokens l.text))

abbrev pub decreases-updates : goal.decreases-updates
decreases-updates l = length l.rest
