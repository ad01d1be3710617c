use Rattle.std.{proofs.Common.{Some, ap, ◌∙◌}, proofs.lemmas.Bool.leb-true}
use Rattle.yq_core.specs.Trees.{placed_tree}
use Rattle.yq_outline.specs.Sound.{head_is_sound}
use Rattle.yq_compose.{specs.Flows.flow_view, proofs.BorrowedDepths.depth_kept}
use Rattle.yq_compose.proofs.inline_fault.is_shallow.Goals as goal

pub returns-in-Borrowed : goal.returns-in-Borrowed
returns-in-Borrowed c = λ yes.
    let node = c.in-Borrowed.node in
    ap (λ x. head_is_sound c.args.depth (Some (placed_tree (flow_view x)))) c.in-Borrowed.is ∙ depth_kept node.total node.depth c.args.depth node.text.now node.borrowed (leb-true _ _ yes)
