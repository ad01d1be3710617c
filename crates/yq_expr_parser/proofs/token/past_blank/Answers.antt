use Rattle.std.{proofs.Common.{ap, ◌∙◌}, specs.List.prefix_len}
use Rattle.yq_semantics.specs.Tokens.{is_token_blank}
use Rattle.yq_expr_parser.proofs.Lexing.{boundary_blank}
use Rattle.yq_expr_parser.proofs.token.past_blank.Goals as goal

pub split_at-requires : goal.split_at-requires
split_at-requires c =
    boundary_blank c.args.text.now c.blanks_len.result (c.blanks_len.ensures.value ∙ ap (prefix_len is_token_blank) c.as_bytes.ensures.value) c.utf8.text
