use Rattle.std.proofs.Common.{◌≡◌, map, take, string_bytes}
use Rattle.yq_expr_parser.proofs.parse.literal.keys.Given as goal

abbrev pub invariant-loop-field : goal.invariant-loop-field
invariant-loop-field l = map (λ k. k.now) l.keys.items ≡ map (λ e. string_bytes e.0) (take l.field-index l.fields.items)
