use Rattle.yq_expr_parser.proofs.Closings.{worded_mark}
use Rattle.yq_expr_parser.proofs.token.measure.worded.Goals as goal

pub returns-in-len1-up-2 : goal.returns-in-len1-up-2
returns-in-len1-up-2 c = worded_mark c.args.text.now c.marked.result c.in-len1-up.len_at_least c.if-begins_name.ensures c.marked.ensures
