use Rattle.std.proofs.Common.{sym, ap, ◌∙◌}
use Rattle.yq_core.{specs.Tree.anchor_of, specs.Trees.placed_tree, specs.View.borrowed_view, proofs.BorrowedNames.front_unnamed}
use Rattle.yq_outline.{specs.Bodies.borrowed, specs.Outline.anchored}
use Rattle.yq_nodes.{specs.Bodies.body_node, proofs.BorrowedChildren.anchor_before}
use Rattle.yq_nodes.proofs.nodes.node.Node.anchor.Goals as goal

pub returns-in-Borrowed : goal.returns-in-Borrowed
returns-in-Borrowed c =
    let n = c.in-Borrowed.field-0 in
    let before = borrowed c.args.self.now.named.anchor in
    anchor_before before (placed_tree (borrowed_view n)) (front_unnamed n.total n.depth n.text.now n.borrowed) ∙ ap (λ b. anchor_of (anchored before (body_node b))) (sym c.in-Borrowed.is)
