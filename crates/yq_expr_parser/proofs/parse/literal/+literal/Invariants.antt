use Rattle.std.{proofs.Common.{◌≡◌, ◌+◌, ◌*◌, ◌≤◌, length, map}, specs.Prelude.codes}
use denote.Text.{Utf8}
use denote.Shadow.{shadow}
use Rattle.yq_expr_parser.{specs.Lexing.tokens, specs.Parse.{parted_at, field_at, literal_at}, proofs.LoopSteps.onto}
use Rattle.yq_core.specs.Values.{value_node, field_of}
use Rattle.yq_expr_parser.proofs.parse.literal.+literal.Given as goal

abbrev pub decreases-literal : goal.decreases-literal
decreases-literal l = 3 * l.depth

abbrev pub decreases-field : goal.decreases-field
decreases-field l = 3 * l.depth + 1

abbrev pub decreases-list : goal.decreases-list
decreases-list l = 3 * l.depth + 2

abbrev pub decreases-mapping : goal.decreases-mapping
decreases-mapping l = 3 * l.depth + 2

abbrev pub invariant-list-items : goal.invariant-list-items
invariant-list-items l =
    shadow (Utf8 l.rest) × (length l.rest ≤ length l.fn.text)
    × (onto (map value_node l.found.items) (parted_at (codes ",") (literal_at l.fn.depth) (tokens l.rest)) ≡ parted_at (codes ",") (literal_at l.fn.depth) (tokens l.fn.text))

abbrev pub decreases-list-items : goal.decreases-list-items
decreases-list-items l = length l.rest

abbrev pub invariant-mapping-fields : goal.invariant-mapping-fields
invariant-mapping-fields l =
    shadow (Utf8 l.rest) × (length l.rest ≤ length l.fn.text)
    × (onto (map field_of l.found.items) (parted_at (codes ",") (field_at (literal_at l.fn.depth)) (tokens l.rest)) ≡ parted_at (codes ",") (field_at (literal_at l.fn.depth)) (tokens l.fn.text))

abbrev pub decreases-mapping-fields : goal.decreases-mapping-fields
decreases-mapping-fields l = length l.rest
