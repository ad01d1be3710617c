use Rattle.std.proofs.Common.{ap, ◌∙◌, arith}
use Rattle.yq_row_table.{specs.Grammar.begins_document, specs.View.bound_view}
use Rattle.yq_compose.{specs.Places.documents_view, proofs.PartLaws.{part_done, part_step}}
use Rattle.yq_compose.proofs.parts.document_rows.Goals as goal

pub parts-preserved : goal.parts-preserved
parts-preserved c = record {
  within = omega (arith, c.parts-test.true, c.parts-in-parts.ensures);
  so_far = part_step c.args.rows.now.rows c.parts.is_document c.parts.from c.parts.at c.args.rows.now.bounds (bound_view c.part-bound.result) c.part-bound.ensures c.begins_document-is_document.result
      (c.begins_document-is_document.ensures ∙ ap begins_document c.as_bytes.ensures.value) (documents_view c.parts.documents.items)
      (documents_view c.in_ok-documents-2.documents.items) _ c.parts.invariant.so_far c.in_ok-documents-2.ensures;
}

pub returns : goal.returns
returns c = part_done c.args.rows.now.rows c.parts.is_document c.parts.from c.parts.at c.args.rows.now.bounds (documents_view c.parts.documents.items) _ (omega (arith, c.parts-test.false, c.parts-in-parts.ensures)) c.parts.invariant.so_far
