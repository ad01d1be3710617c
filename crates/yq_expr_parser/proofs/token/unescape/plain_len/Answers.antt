use Rattle.std.proofs.Common.{arith, sym, ◌∙◌}
use Rattle.yq_expr_parser.specs.Lexing.{is_plain_byte}
use Rattle.yq_core.proofs.Prefixes.{prefix_more, prefix_stop, prefix_end}
use Rattle.yq_expr_parser.proofs.token.unescape.plain_len.Goals as goal

pub plain-preserved : goal.plain-preserved
plain-preserved c = record {
  within = omega (arith, c.plain-test.true);
  so_far = prefix_more is_plain_byte c.args.text.now c.plain.n _ c.plain-test.true (sym c.is_plain.ensures ∙ c.if-is_plain.true) c.plain.invariant.so_far;
}

pub returns-else-is_plain-clause-value : goal.returns-else-is_plain-clause-value
returns-else-is_plain-clause-value c = prefix_stop is_plain_byte c.args.text.now c.plain.n _ c.plain-test.true (sym c.is_plain.ensures ∙ c.if-is_plain.false) c.plain.invariant.so_far

pub returns-after-plain-clause-value : goal.returns-after-plain-clause-value
returns-after-plain-clause-value c = prefix_end is_plain_byte c.args.text.now c.plain.n _ c.plain-test.false c.plain.invariant.so_far
