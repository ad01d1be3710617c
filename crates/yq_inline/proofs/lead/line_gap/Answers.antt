use Rattle.std.{proofs.Common.{eqb, sym, ap, ◌∙◌}, specs.List.prefix_len}
use Rattle.yq_inline.{specs.Short.is_token as token, proofs.GapSteps.{after_spaces, break_and_spaces, token_apart}}
use Rattle.yq_inline.proofs.lead.line_gap.Goals as goal

pub split_at-requires : goal.split_at-requires
split_at-requires c =
    after_spaces c.args.text.now c.in_ok-line.line.now c.spaces_len-n.result c.in_ok-line.ensures.0 c.in_ok-line.ensures.1
    (c.spaces_len-n.ensures.value ∙ ap (prefix_len (λ b. eqb b 32)) c.as_bytes.ensures.value) c.if-n-eq0.false c.utf8.text

pub returns-clause-read : goal.returns-clause-read
returns-clause-read c =
    let apart = token_apart c.split_at.result.1.now (ap token (sym c.as_bytes-2.ensures.value) ∙ (sym c.is_token.ensures ∙ c.if-not-is_token.false)) in
    break_and_spaces c.args.text.now c.in_ok-line.line.now c.split_at.result.0.now c.split_at.result.1.now c.spaces_len-n.result c.in_ok-line.ensures.0 c.in_ok-line.ensures.1
    (c.spaces_len-n.ensures.value ∙ ap (prefix_len (λ b. eqb b 32)) c.as_bytes.ensures.value) c.if-n-eq0.false c.split_at.ensures.front c.split_at.ensures.back apart.0 apart.1
