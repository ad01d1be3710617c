use Rattle.std.{proofs.Common.{◌≡◌, Some, subst}, specs.Prelude.IfSome}
use Rattle.yq_outline.specs.RowWalk.{stretch_view}
use Rattle.yq_places.{specs.RowWalk.document_row_range, proofs.WalkDocuments.{rows_known, no_rows_view}}
use Rattle.yq_row_table.specs.View.{bound_view}
use Rattle.yq_documents.specs.Reading.{cut_of}
use Rattle.yq_lookup.proofs.CutRows.{documents_known}
use Rattle.yq_lookup.proofs.cut_text.CutText.stretch.Goals as goal

pub returns-in_err-part : goal.returns-in_err-part
returns-in_err-part c = rw c.from_residual.ensures (no_rows_view (cut_of c.args.self.now) c.args.doc (c.in_err-part.ensures.value (cut_of c.args.self.now) c.rows-rows.ensures.rows))

pub returns : goal.returns
returns c =
    let cut = cut_of c.args.self.now in
    rows_known cut c.rows-rows.result.now c.args.doc c.in_ok-part.part c.rows_to.result (bound_view c.part.result) c.rows-rows.ensures.rows
    (c.in_ok-part.ensures.value cut c.rows-rows.ensures.rows) (c.rows_to.ensures cut c.rows-rows.ensures.rows) c.part.ensures

pub part_from-requires : goal.part_from-requires
part_from-requires c = documents_known c.args.self.now c.rows-rows.result.now c.documents.result c.rows-rows.ensures.rows c.documents.ensures

pub returns-in-Some : goal.returns-in-Some
returns-in-Some c =
    subst (λ o. IfSome o (λ d. Some (stretch_view d) ≡ document_row_range c.args.doc (cut_of c.args.self.now))) c.in-Some.is c.rows_known.ensures
