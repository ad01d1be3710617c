use Rattle.std.proofs.Common.{◌≡◌, Some, sym, ap, ◌∙◌, arith}
use Rattle.yq_expr_parser.{specs.Lexing.token_measure, proofs.Lexing.{boundary_token, token_some}}
use Rattle.yq_expr_parser.proofs.token.split_token.Goals as goal

pub split_at-requires : goal.split_at-requires
split_at-requires c =
    boundary_token c.past_blank-text.result.now c.in-Some.form c.in-Some.len (sym (c.in-Some.ensures ∙ ap token_measure c.as_bytes.ensures.value)) c.past_blank-text.utf8

pub returns-in-Some-clause-shorter : goal.returns-in-Some-clause-shorter
returns-in-Some-clause-shorter c =
    let found : token_measure c.past_blank-text.result.now ≡ Some (c.in-Some.form, c.in-Some.len) = sym (c.in-Some.ensures ∙ ap token_measure c.as_bytes.ensures.value) in
    let at = boundary_token c.past_blank-text.result.now c.in-Some.form c.in-Some.len found c.past_blank-text.utf8 in
    omega (arith, c.split_at.ensures.back_len, token_some c.past_blank-text.result.now c.in-Some.form c.in-Some.len found, at.0, c.past_blank-text.ensures.within)
