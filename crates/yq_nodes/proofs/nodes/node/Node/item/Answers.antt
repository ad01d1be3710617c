use Rattle.std.proofs.Common.{ap, ◌∙◌}
use Rattle.yq_core.specs.Paths.{Nth}
use Rattle.yq_outline.specs.Labelled.{labelled_at}
use Rattle.yq_nodes.{specs.Nodes.node_of, proofs.WalkLaws.child_node}
use Rattle.yq_nodes.proofs.nodes.node.Node.item.Goals as goal

pub returns-clause-node : goal.returns-clause-node
returns-clause-node c = child_node (Nth c.args.index) (node_of c.args.self.now) c.rest_item.result (c.rest_item.ensures ∙ ap (labelled_at (Nth c.args.index)) c.rest.ensures)
