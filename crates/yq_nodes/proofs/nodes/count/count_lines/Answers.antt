use Rattle.std.proofs.Common.{ap, arith}
use Rattle.yq_outline.specs.Counts.{count}
use Rattle.yq_nodes.proofs.nodes.count.count_lines.Goals as goal

pub lines-preserved : goal.lines-preserved
lines-preserved c = (omega (arith, ap count c.in-Some.ensures.after.children_are, c.lines.invariant.0), omega (arith, c.lines.invariant.1, c.in-Some.ensures.later))
