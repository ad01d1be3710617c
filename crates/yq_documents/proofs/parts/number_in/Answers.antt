use Rattle.std.proofs.Common.{◌∙◌, ◌+◌, drop, sym, ap, rules}
use Rattle.yq_row_table.{specs.Grammar.begins_document, specs.View.bound_view}
use Rattle.yq_documents.{specs.PartReading.number_in, proofs.PartNumberLaws.{part_here, part_later}}
use Rattle.yq_outline.proofs.EndsLaws.{drop_at}
use Rattle.yq_documents.proofs.parts.number_in.Goals as goal

pub returns-then-is_sought-clause-value : goal.returns-then-is_sought-clause-value
returns-then-is_sought-clause-value c = search (rules, part_here, drop_at)

pub parts-preserved : goal.parts-preserved
parts-preserved c =
    let bs = c.args.rows.now.bounds in
    let begins = c.begins_document-is_document.ensures ∙ ap begins_document c.as_bytes.ensures.value in
    c.parts.invariant
    ∙ (part_later c.parts.is_document c.parts.left c.parts.at (bound_view c.part-bound.result) (drop c.parts.at bs) (drop (c.parts.at + 1) bs)
    (drop_at bs c.parts.at (bound_view c.part-bound.result) c.part-bound.ensures) c.if-is_sought.ensures
    ∙ (λ j. number_in (sym begins j) (sym c.left_past-left.ensures j) (c.parts.at + 1) (drop (c.parts.at + 1) bs)))
