use Rattle.std.proofs.Common.{rules}
use Rattle.yq_expr_parser.proofs.Closings.{fraction_here}
use Rattle.yq_expr_parser.proofs.token.measure.fraction_len.Goals as goal

pub returns-in-46-clause-value : goal.returns-in-46-clause-value
returns-in-46-clause-value c = fraction_here c.args.text.now c.digits_len.result c.in-46.len_at_least (search rules) c.if-begins_number.ensures c.digits_len.ensures.value
