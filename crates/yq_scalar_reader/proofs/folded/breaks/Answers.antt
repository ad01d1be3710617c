use Rattle.std.proofs.Common.{arith, rules}
use Rattle.yq_core.proofs.Across.{rest_length}
use Rattle.yq_scalar_reader.proofs.LoopLaws.{breaks_feed, breaks_other, breaks_none}
use Rattle.yq_scalar_reader.proofs.folded.breaks.Goals as goal

pub each-preserved-then-first-eq10 : goal.each-preserved-then-first-eq10
each-preserved-then-first-eq10 c = search (rules, rest_length, breaks_feed)

pub each-preserved : goal.each-preserved
each-preserved c = search (rules, rest_length, breaks_other)

pub returns : goal.returns
returns c = omega (arith, breaks_none c.each.rest.now c.in_default.len_below, c.each.invariant.so_far)
