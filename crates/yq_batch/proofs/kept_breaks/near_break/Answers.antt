use Rattle.std.proofs.Common.{sym, ◌∙◌, arith}
use Rattle.yq_batch.proofs.RowBreakLaws.{feed_near, return_near}
use Rattle.yq_batch.proofs.kept_breaks.near_break.Goals as goal

pub returns-then-first_is : goal.returns-then-first_is
returns-then-first_is c =
    return_near c.args.text.now c.split_at.result.0.now c.split_at-2.result.1.now c.min.result c.text_len-end.result c.split_at.ensures.front c.text_len-end.ensures (omega (arith, c.if-end-near.false)) c.split_at-2.ensures.back
    (sym c.first_is.ensures ∙ c.if-first_is.true)

pub returns : goal.returns
returns c =
    feed_near c.args.text.now c.split_at.result.0.now c.split_at-2.result.1.now c.min.result c.text_len-end.result c.split_at.ensures.front c.text_len-end.ensures (omega (arith, c.if-end-near.false)) c.split_at-2.ensures.back
    (sym c.first_is.ensures ∙ c.if-first_is.false)
