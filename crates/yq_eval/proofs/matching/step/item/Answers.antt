use Rattle.yq_nodes.specs.Nodes.{node_of}
use Rattle.yq_core.specs.Tree.{children_of}
use Rattle.std.{proofs.lemmas.Int.to_z-of_z, proofs.Common.{w64, Some}}
use Rattle.yq_eval.proofs.StepLaws.{item_found}
use Rattle.yq_eval.proofs.matching.step.item.Goals as goal

pub returns : goal.returns
returns c =
    item_found c.args.index _ (children_of (node_of c.args.node.now)) c.in_ok-number.number (Some (node_of c.in-Some.item))
    (to_z-of_z w64 c.args.index c.ranges.index) c.in_ok-number.ensures c.in-Some.ensures.node
