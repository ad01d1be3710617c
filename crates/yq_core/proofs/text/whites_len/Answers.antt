use Rattle.std.proofs.Common.{arith, sym, ◌∙◌}
use Rattle.yq_core.{specs.Text.is_white, proofs.Prefixes.{prefix_more, prefix_stop, prefix_end}}
use Rattle.yq_core.proofs.text.whites_len.Goals as goal

pub whites-preserved : goal.whites-preserved
whites-preserved c = record {
  within = omega (arith, c.whites-test.true);
  so_far = prefix_more is_white c.args.text.now c.whites.n _ c.whites-test.true (sym c.is_white.ensures ∙ c.if-is_white.true) c.whites.invariant.so_far;
}

pub returns-else-is_white-clause-value : goal.returns-else-is_white-clause-value
returns-else-is_white-clause-value c = prefix_stop is_white c.args.text.now c.whites.n _ c.whites-test.true (sym c.is_white.ensures ∙ c.if-is_white.false) c.whites.invariant.so_far

pub returns-after-whites-clause-value : goal.returns-after-whites-clause-value
returns-after-whites-clause-value c = prefix_end is_white c.args.text.now c.whites.n _ c.whites-test.false c.whites.invariant.so_far
