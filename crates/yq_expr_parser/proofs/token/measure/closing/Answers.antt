use Rattle.std.proofs.Common.{arith, rules}
use Rattle.yq_expr_parser.proofs.Closings.{after_length, foreign_further, escape_further, plain_further}
use Rattle.yq_expr_parser.proofs.token.measure.closing.Goals.{then-rest-lt2+in_default-1, else-rest-lt2+in_default-1}
use Rattle.yq_expr_parser.proofs.token.measure.closing.Goals as goal

pub bytes-preserved-in-40-1 : goal.bytes-preserved-in-40-1
bytes-preserved-in-40-1 c = record {
  within = after_length 2 c.bytes.len c.bytes.rest.now c.args.text.now c.in-92.len_at_least c.bytes.invariant.within;
  so_far = foreign_further c.bytes.foreign c.bytes.len c.bytes.rest.now c.args.text.now c.in-92.len_at_least (search rules) (search rules) c.bytes.invariant.so_far;
}

pub bytes-preserved-then-is_escape : goal.bytes-preserved-then-is_escape
bytes-preserved-then-is_escape c = record {
  within = after_length 2 c.bytes.len c.bytes.rest.now c.args.text.now c.in-92-2.len_at_least c.bytes.invariant.within;
  so_far = escape_further c.bytes.foreign c.bytes.len c.bytes.rest.now c.args.text.now c.in-92-2.len_at_least (search rules) c.if-is_escape.ensures c.bytes.invariant.so_far;
}

pub bytes-preserved : goal.bytes-preserved
bytes-preserved c = elim c.in-len1-up-1.branch [
  | then-rest-lt2+in_default-1 w ↦ record {
    within = after_length 1 c.bytes.len c.bytes.rest.now c.args.text.now (search (rules, arith)) c.bytes.invariant.within;
    so_far = plain_further c.bytes.foreign c.bytes.len c.bytes.rest.now c.args.text.now (search (rules, arith)) (search rules) (search rules) c.bytes.invariant.so_far;
  }
  | else-rest-lt2+in_default-1 w ↦ record {
    within = after_length 1 c.bytes.len c.bytes.rest.now c.args.text.now (search (rules, arith)) c.bytes.invariant.within;
    so_far = plain_further c.bytes.foreign c.bytes.len c.bytes.rest.now c.args.text.now (search (rules, arith)) (search rules) (search rules) c.bytes.invariant.so_far;
  }
]
