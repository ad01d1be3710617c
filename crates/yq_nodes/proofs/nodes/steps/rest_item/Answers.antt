use Rattle.std.proofs.Common.{sym, ap, ◌∙◌}
use Rattle.yq_core.specs.Paths.{Nth}
use Rattle.yq_inline.specs.BorrowedParts.{borrowed_entry, parts_view}
use Rattle.yq_outline.specs.Labelled.{labelled_at}
use Rattle.yq_nodes.{specs.Children.rest_of, proofs.BorrowedChildren.{part_found, part_missing}}
use Rattle.yq_nodes.proofs.nodes.steps.rest_item.Goals as goal

pub returns-in_err-item-in-Borrowed : goal.returns-in_err-item-in-Borrowed
returns-in_err-item-in-Borrowed c =
    rw c.from_residual-in_err-item-in-Borrowed.ensures
    (part_missing (Nth c.args.index) (parts_view c.in-Borrowed.parts) c.in_err-item-in-Borrowed.ensures ∙ ap (λ r. labelled_at (Nth c.args.index) (rest_of r)) (sym c.in-Borrowed.is))

pub returns-in_ok-item-in-Borrowed : goal.returns-in_ok-item-in-Borrowed
returns-in_ok-item-in-Borrowed c =
    part_found (Nth c.args.index) (parts_view c.in-Borrowed.parts) (borrowed_entry c.in_ok-item-in-Borrowed.field-0) c.of_borrowed.result c.in_ok-item-in-Borrowed.ensures
    (λ i. (c.of_borrowed.ensures.label i, c.of_borrowed.ensures.node i)) ∙ ap (λ r. labelled_at (Nth c.args.index) (rest_of r)) (sym c.in-Borrowed.is)
