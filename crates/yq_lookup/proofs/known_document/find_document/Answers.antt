use Rattle.std.{proofs.Common.{◌+◌, cond, drop, sym, ap, ◌∙◌, subst, arith}, specs.Prelude.IfSome}
use Rattle.yq_row_table.{specs.Grammar.begins_document, specs.View.bound_view}
use Rattle.yq_documents.specs.PartReading.{number_in}
use Rattle.yq_lookup.proofs.known_document.find_document.Goals.{then-is_document+else-count-doc, else-is_document}
use Rattle.yq_lookup.specs.KnownDocuments.{IsKnownDocument, part_by_number}
use Rattle.yq_lookup.proofs.KnownDocumentLaws.{goes_on_next, goes_on_none, known_here}
use Rattle.yq_lookup.proofs.known_document.find_document.Goals as goal

pub parts-init : goal.parts-init
parts-init c = record {
  order = c.search_start-begins.ensures.order c.args.doc c.known_upto-from.ensures.order;
  goes_on = c.search_start-begins.ensures.goes_on;
  before = (c.known_upto-from.ensures.known c.args.rows.now.bounds c.requires).1;
}

pub returns-then-count-doc-clause-part : goal.returns-then-count-doc-clause-part
returns-then-count-doc-clause-part c =
    let bs = c.args.rows.now.bounds in
    sym (ap (λ n. part_by_number n bs) (sym c.if-count-doc.true) ∙ known_here bs c.parts.part c.parts.count c.parts.is_document (bound_view c.part-bound.result) c.if-is_document.true c.part-bound.ensures c.parts.invariant.goes_on)

pub returns-then-count-doc-clause-known : goal.returns-then-count-doc-clause-known
returns-then-count-doc-clause-known c =
    (known_here c.args.rows.now.bounds c.parts.part c.parts.count c.parts.is_document (bound_view c.part-bound.result) c.if-is_document.true c.part-bound.ensures c.parts.invariant.goes_on, c.parts.invariant.before)

pub parts-preserved : goal.parts-preserved
parts-preserved c =
    let bs = c.args.rows.now.bounds in
    let next = goes_on_next bs c.parts.part c.parts.count c.parts.is_document (bound_view c.part-bound.result) c.part-bound.ensures c.parts.invariant.goes_on in
    let begins = c.begins_document-is_document.ensures ∙ ap begins_document c.as_bytes.ensures.value in
    elim c.if-is_document.branch [
      | then-is_document+else-count-doc w ↦
          let count = w.count-is ∙ ap (λ b. cond b (c.parts.count + 1) c.parts.count) (sym w.if-is_document.true) in
          let here = known_here bs c.parts.part c.parts.count c.parts.is_document (bound_view c.part-bound.result) w.if-is_document.true c.part-bound.ensures c.parts.invariant.goes_on in
          record {
            order = omega (arith, w.count-is, w.if-count-doc.false, c.parts.invariant.order);
            goes_on = λ n. ap (λ m. part_by_number (m + n) bs) count ∙ (next n ∙ ap (λ b. number_in b n (c.parts.part + 1) (drop (c.parts.part + 1) bs)) (sym begins));
            before = subst (λ o. IfSome o (IsKnownDocument bs)) (sym w.before-is) here;
          }
      | else-is_document w ↦
          let count = w.count-is ∙ ap (λ b. cond b (c.parts.count + 1) c.parts.count) (sym w.if-is_document.false) in
          record {
            order = omega (arith, w.count-is, c.parts.invariant.order);
            goes_on = λ n. ap (λ m. part_by_number (m + n) bs) count ∙ (next n ∙ ap (λ b. number_in b n (c.parts.part + 1) (drop (c.parts.part + 1) bs)) (sym begins));
            before = subst (λ o. IfSome o (IsKnownDocument bs)) (sym w.before-is) c.parts.invariant.before;
          }
    ]

pub returns-clause-part : goal.returns-clause-part
returns-clause-part c = goes_on_none c.args.rows.now.bounds c.parts.part c.parts.count c.args.doc c.parts.is_document (omega (arith, c.parts-test.false, c.parts-part-end.ensures)) c.parts.invariant.order c.parts.invariant.goes_on
