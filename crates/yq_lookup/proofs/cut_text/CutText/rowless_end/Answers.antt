use Rattle.std.proofs.Common.{Some, ap, ◌∙◌}
use Rattle.yq_row_table.specs.View.{bound_view}
use Rattle.yq_documents.specs.Reading.{cut_of}
use Rattle.yq_places.proofs.RootPlaceLaws.{written_none, end_there, no_end}
use Rattle.yq_lookup.proofs.CutRows.{documents_known}
use Rattle.yq_lookup.proofs.cut_text.CutText.rowless_end.Goals as goal

pub returns-in_err-part : goal.returns-in_err-part
returns-in_err-part c = rw c.from_residual.ensures (no_end (cut_of c.args.self.now) c.args.doc (c.in_err-part.ensures.value (cut_of c.args.self.now) c.rows-rows.ensures.rows))

pub returns-then-rows_to-part : goal.returns-then-rows_to-part
returns-then-rows_to-part c =
    let cut = cut_of c.args.self.now in
    written_none c.rows-rows.result.now cut c.args.doc c.in_ok-part.part c.rows_to.result (bound_view c.part.result) c.rows-rows.ensures.rows
    (c.in_ok-part.ensures.value cut c.rows-rows.ensures.rows) (c.rows_to.ensures cut c.rows-rows.ensures.rows) c.part.ensures
    c.if-rows_to-part.true

pub returns : goal.returns
returns c =
    let cut = cut_of c.args.self.now in
    ap Some (c.part_end.ensures (bound_view c.part.result) c.part.ensures)
    ∙ end_there c.rows-rows.result.now cut c.args.doc c.in_ok-part.part c.rows_to.result (bound_view c.part.result) c.rows-rows.ensures.rows
    (c.in_ok-part.ensures.value cut c.rows-rows.ensures.rows) (c.rows_to.ensures cut c.rows-rows.ensures.rows) c.part.ensures
    c.if-rows_to-part.false

pub part_from-requires : goal.part_from-requires
part_from-requires c = documents_known c.args.self.now c.rows-rows.result.now c.documents.result c.rows-rows.ensures.rows c.documents.ensures
