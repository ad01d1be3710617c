use Rattle.std.proofs.Common.{arith, refl}
use Rattle.yq_row_table.specs.View.{bound_view}
use Rattle.yq_lookup.proofs.DocumentFronts.{view_document_stays, view_first_document}
use Rattle.yq_lookup.proofs.known_document.document_before.Goals as goal

pub returns-then-known-eq0 : goal.returns-then-known-eq0
returns-then-known-eq0 c = λ a same.
    view_first_document c.args.rows.now c.in_ok-known.known c.args.front (rw c.in_ok-known.was at c.requires) c.if-known-eq0.true a same (c.if-not-begins_with_row.ensures refl a same)

pub returns-then-marker-saturating_sub : goal.returns-then-marker-saturating_sub
returns-then-marker-saturating_sub c =
    let b = bound_view c.part.result in
    view_document_stays c.args.rows.now c.in_ok-known.known c.args.front b (rw c.in_ok-known.was at c.requires) c.if-known-eq0.false c.part.ensures
    (omega (arith, c.if-marker-saturating_sub.true, c.saturating_sub.ensures, c.part_end.ensures b c.part.ensures))
