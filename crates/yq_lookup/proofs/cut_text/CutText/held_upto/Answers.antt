use Rattle.std.proofs.Common.{map, ap, ◌∙◌, sym, subst}
use Rattle.yq_core.specs.Entries.{tree_step}
use Rattle.yq_text.specs.Halves.{whole}
use Rattle.yq_row_table.{specs.Grammar.IsCut, specs.View.rows_view}
use Rattle.yq_documents.specs.Reading.{cut_of}
use Rattle.yq_places.{specs.PlacementReading.numbers_at, specs.PlacementViews.held_view, proofs.EntryNumbers.entry_found}
use Rattle.yq_lookup.{specs.HeldRows.IsHeldUpto, proofs.HeldUptoLaws.{held_upto_is, short, short_in}}
use Rattle.yq_lookup.proofs.cut_text.CutText.held_upto.Goals as goal

pub held_in-requires : goal.held_in-requires
held_in-requires c =
    let text = c.whole-text.ensures.text in
    let cut = subst (λ t. IsCut t (cut_of t)) (sym text) c.whole-text.ensures.cut in
    let rows = c.rows.ensures.rows ∙ ap (λ t. rows_view (cut_of t)) (sym text) in
    let f = entry_found (whole c.whole-text.result) c.rows.result.now c.args.doc (map tree_step c.args.steps.now) c.in_ok-entry.entry cut rows
    (c.in_ok-entry.ensures ∙ ap (λ t. numbers_at c.args.doc (map tree_step c.args.steps.now) (cut_of t)) (sym text)) in
    record { entry = short _ _ _ _ _ f c.args.end c.if-end-entry.false c.if-end-entry-2.false; is = short_in _ _ _ _ _ f c.args.end c.if-end-entry.false c.if-end-entry-2.false }

pub returns : goal.returns
returns c =
    let text = c.whole-text.ensures.text in
    let cut = subst (λ t. IsCut t (cut_of t)) (sym text) c.whole-text.ensures.cut in
    let rows = c.rows.ensures.rows ∙ ap (λ t. rows_view (cut_of t)) (sym text) in
    let f = entry_found (whole c.whole-text.result) c.rows.result.now c.args.doc (map tree_step c.args.steps.now) c.in_ok-entry.entry cut rows
    (c.in_ok-entry.ensures ∙ ap (λ t. numbers_at c.args.doc (map tree_step c.args.steps.now) (cut_of t)) (sym text)) in
    let there = short_in _ _ _ _ _ f c.args.end c.if-end-entry.false c.if-end-entry-2.false in
    subst (λ t. IsHeldUpto c.args.doc (map tree_step c.args.steps.now) (cut_of t) c.args.end c.in_ok-entry.entry (held_view c.held_in.result)) text
    (held_upto_is _ _ _ _ _ f c.args.end c.if-end-entry.false c.if-end-entry-2.false (sym c.if-entry.false) _ (c.held_in.ensures _ there))
