use Rattle.std.{proofs.Common.{ap, ◌∙◌}, specs.List.prefix_len}
use Rattle.yq_expr_parser.{specs.Lexing.is_plain_byte, proofs.Content.boundary_plain}
use Rattle.yq_expr_parser.proofs.token.unescape.split_plain.Goals as goal

pub split_at-requires : goal.split_at-requires
split_at-requires c =
    boundary_plain c.args.text.now c.plain_len.result (c.plain_len.ensures.value ∙ ap (prefix_len is_plain_byte) c.as_bytes.ensures.value)
