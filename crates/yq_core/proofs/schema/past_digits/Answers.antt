use Rattle.std.proofs.Common.{ℕ, drop, arith, sym, ap, ◌∙◌}
use Rattle.yq_core.{specs.SchemaReading.is_digit, proofs.Prefixes.{prefix_more, prefix_stop, prefix_end}}
use Rattle.yq_core.proofs.schema.past_digits.Goals.{then-digits-test+else-is_digit, else-digits-test}
use Rattle.yq_core.proofs.schema.past_digits.Goals as goal

pub digits-preserved : goal.digits-preserved
digits-preserved c = record {
  within = omega (arith, c.digits-test.true);
  so_far = prefix_more (is_digit c.args.base) c.args.text.now c.digits.n _ c.digits-test.true (sym c.is_digit.ensures ∙ c.if-is_digit.true) c.digits.invariant.so_far;
}

pub split_at-requires : goal.split_at-requires
split_at-requires c = c.digits.invariant.within

pub returns : goal.returns
returns c = c.split_at.ensures.back ∙ ap (λ (k : ℕ). drop k c.args.text.now) (elim c.digits-test.branch [
  | then-digits-test+else-is_digit w ↦ prefix_stop (is_digit c.args.base) c.args.text.now c.digits.n _ w.digits-test.true (sym w.is_digit.ensures ∙ w.if-is_digit.false) c.digits.invariant.so_far
  | else-digits-test w ↦ prefix_end (is_digit c.args.base) c.args.text.now c.digits.n _ w.digits-test.false c.digits.invariant.so_far
])
