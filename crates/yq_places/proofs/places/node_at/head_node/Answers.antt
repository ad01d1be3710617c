use Rattle.std.{proofs.Common.rules, proofs.lemmas.List.length-map}
use Rattle.yq_places.proofs.NodeAtLaws.{scalar_steps, scalar_there}
use Rattle.yq_places.proofs.places.node_at.head_node.Goals as goal

pub returns-then-not-is_empty : goal.returns-then-not-is_empty
returns-then-not-is_empty c = search (rules, c.in-Scalar.is, scalar_steps, c.in-Scalar.kind, c.if-not-is_empty.ensures, length-map)

pub returns-else-not-is_empty : goal.returns-else-not-is_empty
returns-else-not-is_empty c = search (rules, c.in-Scalar.is, scalar_there, c.in-Scalar.kind, c.if-not-is_empty.ensures, length-map)
