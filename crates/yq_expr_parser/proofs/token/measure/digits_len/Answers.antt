use Rattle.std.{proofs.Common.{arith, sym, ◌∙◌}, specs.Char.is_ascii_digit}
use Rattle.yq_core.proofs.Prefixes.{prefix_more, prefix_stop, prefix_end}
use Rattle.yq_expr_parser.proofs.token.measure.digits_len.Goals as goal

pub digits-preserved : goal.digits-preserved
digits-preserved c = record {
  within = omega (arith, c.digits-test.true);
  so_far = prefix_more is_ascii_digit c.args.text.now c.digits.n _ c.digits-test.true (sym c.is_ascii_digit.ensures.value ∙ c.if-is_ascii_digit.true) c.digits.invariant.so_far;
}

pub returns-else-is_ascii_digit-clause-value : goal.returns-else-is_ascii_digit-clause-value
returns-else-is_ascii_digit-clause-value c = prefix_stop is_ascii_digit c.args.text.now c.digits.n _ c.digits-test.true (sym c.is_ascii_digit.ensures.value ∙ c.if-is_ascii_digit.false) c.digits.invariant.so_far

pub returns-after-digits-clause-value : goal.returns-after-digits-clause-value
returns-after-digits-clause-value c = prefix_end is_ascii_digit c.args.text.now c.digits.n _ c.digits-test.false c.digits.invariant.so_far
