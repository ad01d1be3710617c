use Rattle.std.proofs.Common.{ap, ◌∙◌}
use Rattle.yq_core.specs.Paths.{To}
use Rattle.yq_outline.specs.Labelled.{labelled_at}
use Rattle.yq_nodes.{specs.Nodes.node_of, proofs.WalkLaws.child_node}
use Rattle.yq_nodes.proofs.nodes.node.Node.entry.Goals as goal

pub returns-clause-node : goal.returns-clause-node
returns-clause-node c = child_node (To c.args.key.now) (node_of c.args.self.now) c.rest_entry.result (c.rest_entry.ensures ∙ ap (labelled_at (To c.args.key.now)) c.rest.ensures)
