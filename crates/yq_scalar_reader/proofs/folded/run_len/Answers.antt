use Rattle.std.proofs.Common.{arith, rules}
use Rattle.yq_core.{specs.ContentReading.ends_run, proofs.Across.{rest_length, upto_next, upto_none}, proofs.Upto.upto_here}
use Rattle.yq_scalar_reader.proofs.folded.run_len.Goals as goal

pub returns-then-ends_run : goal.returns-then-ends_run
returns-then-ends_run c = search (rules, upto_here)

pub each-preserved : goal.each-preserved
each-preserved c = search (rules, rest_length, upto_next)

pub returns : goal.returns
returns c = omega (arith, upto_none (ends_run c.args.quote) c.each.rest.now c.in_default.len_below, c.each.invariant.so_far)
