use Rattle.std.proofs.Common.{ap, arith}
use Rattle.yq_core.{specs.Places.Parts, specs.Trees.parts_tree}
use Rattle.yq_outline.specs.Counts.{count}
use Rattle.yq_nodes.proofs.nodes.count.count_parts.Goals as goal

pub parts-preserved : goal.parts-preserved
parts-preserved c = (omega (arith, ap (λ (ps : Parts). count (parts_tree ps)) c.in-Some.ensures.view, c.parts.invariant.0), omega (arith, c.parts.invariant.1, c.in-Some.ensures.fewer))
