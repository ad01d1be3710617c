use Rattle.yq_expr_parser.proofs.Closings.{measured_quote, measured_dot, measured_minus}
use Rattle.yq_expr_parser.proofs.token.measure.measure.Goals as goal

pub returns-then-is_negative : goal.returns-then-is_negative
returns-then-is_negative c =
    measured_minus c.args.text.now c.number_len.result c.in-len1-up.len_at_least c.if-is_negative.ensures c.number_len.ensures.value

pub returns-then-first-eq46 : goal.returns-then-first-eq46
returns-then-first-eq46 c =
    measured_dot c.args.text.now c.dotted.result c.in-len1-up.len_at_least c.if-first-eq46.true c.dotted.ensures

pub returns-then-first-eq34 : goal.returns-then-first-eq34
returns-then-first-eq34 c =
    measured_quote c.args.text.now c.closing.result c.quoted.result c.in-len1-up.len_at_least c.if-first-eq34.true c.closing.ensures.value c.quoted.ensures
