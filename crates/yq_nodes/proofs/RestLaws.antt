-- What is left of the items or entries of a node of the code.
use Rattle.std.proofs.Common.{◌≡◌, ap, ◌∙◌}
use Rattle.yq_core.specs.Tree.{children_of}
use Rattle.yq_outline.{specs.Bodies.borrowed, proofs.ChildLaws.anchored_children}
use Rattle.yq_nodes.{specs.Bodies.body_node, specs.Nodes.node_of, specs.declared.nodes.body.Body.Body, specs.declared.nodes.node.Node.Node}

-- the items or entries of a node are those of what it is, but for its anchor
pub body_children : (n : Node) (b : Body) → n.named.body ≡ b → children_of (node_of n) ≡ children_of (body_node b)
body_children n b is = anchored_children (borrowed n.named.anchor) (body_node n.named.body) ∙ ap (λ (x : Body). children_of (body_node x)) is
