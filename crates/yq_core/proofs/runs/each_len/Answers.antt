use Rattle.std.proofs.Common.{arith, not, sym, ap, ◌∙◌}
use Rattle.yq_core.{specs.Runs.run_goes_on, proofs.Prefixes.{prefix_more, prefix_stop, prefix_end}}
use Rattle.yq_core.proofs.runs.each_len.Goals as goal

pub each-preserved : goal.each-preserved
each-preserved c = record {
  within = omega (arith, c.each-test.true);
  so_far = prefix_more (run_goes_on c.args.run) c.args.text.now c.each.n _ c.each-test.true (ap not (sym c.is_stop.ensures ∙ c.if-not-is_stop.true)) c.each.invariant.so_far;
}

pub returns-else-not-is_stop-clause-value : goal.returns-else-not-is_stop-clause-value
returns-else-not-is_stop-clause-value c = prefix_stop (run_goes_on c.args.run) c.args.text.now c.each.n _ c.each-test.true (ap not (sym c.is_stop.ensures ∙ c.if-not-is_stop.false)) c.each.invariant.so_far

pub returns-after-each-clause-value : goal.returns-after-each-clause-value
returns-after-each-clause-value c = prefix_end (run_goes_on c.args.run) c.args.text.now c.each.n _ c.each-test.false c.each.invariant.so_far
