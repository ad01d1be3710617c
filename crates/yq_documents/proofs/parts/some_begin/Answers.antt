use Rattle.std.proofs.Common.{sym, ap, ◌∙◌, arith}
use Rattle.yq_row_table.{specs.Grammar.begins_document, specs.View.bound_view}
use Rattle.yq_documents.proofs.BeginLaws.{begin_here, begin_later}
use Rattle.yq_documents.proofs.parts.some_begin.Goals as goal

pub returns-then-begins_document : goal.returns-then-begins_document
returns-then-begins_document c =
    sym (sym c.parts.invariant.so_far
    ∙ begin_here c.args.rows.now.bounds c.parts.at (bound_view c.part.result) c.part.ensures
    (ap begins_document (sym c.as_bytes.ensures.value) ∙ (sym c.begins_document.ensures ∙ c.if-begins_document.true)))

pub parts-preserved : goal.parts-preserved
parts-preserved c = record {
  within = omega (arith, c.parts-test.true, c.parts-in-parts.ensures);
  so_far = begin_later c.args.rows.now.bounds c.parts.at (bound_view c.part.result) c.part.ensures
      (ap begins_document (sym c.as_bytes.ensures.value) ∙ (sym c.begins_document.ensures ∙ c.if-begins_document.false)) ∙ c.parts.invariant.so_far;
}
