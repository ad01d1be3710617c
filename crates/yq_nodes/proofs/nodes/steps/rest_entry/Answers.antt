use Rattle.std.proofs.Common.{sym, ap, ◌∙◌}
use Rattle.yq_core.specs.Paths.{To}
use Rattle.yq_inline.specs.BorrowedParts.{borrowed_entry, parts_view}
use Rattle.yq_outline.specs.Labelled.{labelled_at}
use Rattle.yq_nodes.{specs.Children.rest_of, proofs.BorrowedChildren.{part_found, part_missing}}
use Rattle.yq_nodes.proofs.nodes.steps.rest_entry.Goals as goal

pub returns-in_err-entry-in-Borrowed : goal.returns-in_err-entry-in-Borrowed
returns-in_err-entry-in-Borrowed c =
    rw c.from_residual-in_err-entry-in-Borrowed.ensures
    (part_missing (To c.args.key.now) (parts_view c.in-Borrowed.parts) c.in_err-entry-in-Borrowed.ensures ∙ ap (λ r. labelled_at (To c.args.key.now) (rest_of r)) (sym c.in-Borrowed.is))

pub returns-in_ok-entry-in-Borrowed : goal.returns-in_ok-entry-in-Borrowed
returns-in_ok-entry-in-Borrowed c =
    part_found (To c.args.key.now) (parts_view c.in-Borrowed.parts) (borrowed_entry c.in_ok-entry-in-Borrowed.field-0) c.of_borrowed.result c.in_ok-entry-in-Borrowed.ensures
    (λ i. (c.of_borrowed.ensures.label i, c.of_borrowed.ensures.node i)) ∙ ap (λ r. labelled_at (To c.args.key.now) (rest_of r)) (sym c.in-Borrowed.is)
