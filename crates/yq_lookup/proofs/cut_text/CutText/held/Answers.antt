use Rattle.std.proofs.Common.{Some, refl, sym, ap, ◌∙◌, subst}
use Rattle.yq_text.specs.Halves.{whole}
use Rattle.yq_row_table.{specs.Grammar.IsCut, specs.View.rows_view}
use Rattle.yq_documents.{specs.Located.steps_of, specs.Reading.cut_of}
use Rattle.yq_places.{specs.PlacementReading.numbers_at, specs.PlacementViews.held_at, proofs.EntryNumbers.entry_found}
use Rattle.yq_places.proofs.PlacementViewLaws.{held_there, no_held, other_held}
use Rattle.yq_lookup.proofs.cut_text.CutText.held.Goals as goal

pub returns-in_err-entry : goal.returns-in_err-entry
returns-in_err-entry c = rw c.from_residual.ensures (no_held c.args.path.now.doc (steps_of c.args.path.now) (cut_of c.args.self.now) c.in_err-entry.ensures)

pub returns-then-entry : goal.returns-then-entry
returns-then-entry c =
    let f = entry_found c.args.self.now (rows_view (cut_of c.args.self.now)) c.args.path.now.doc (steps_of c.args.path.now) c.in_ok-entry.entry c.whole-text.ensures.cut refl c.in_ok-entry.ensures in
    other_held c.args.self.now (rows_view (cut_of c.args.self.now)) c.args.path.now.doc (steps_of c.args.path.now) c.in_ok-entry.entry f c.if-entry.true

pub held_in-requires : goal.held_in-requires
held_in-requires c =
    let text = c.whole-text.ensures.text in
    let cut = subst (λ t. IsCut t (cut_of t)) (sym text) c.whole-text.ensures.cut in
    let rows = c.rows.ensures.rows ∙ ap (λ t. rows_view (cut_of t)) (sym text) in
    let f = entry_found (whole c.whole-text.result) c.rows.result.now c.args.path.now.doc (steps_of c.args.path.now) c.in_ok-entry.entry cut rows
    (c.in_ok-entry.ensures ∙ ap (λ t. numbers_at c.args.path.now.doc (steps_of c.args.path.now) (cut_of t)) (sym text)) in
    record { entry = f.entry; is = f.is }

pub returns : goal.returns
returns c =
    let text = c.whole-text.ensures.text in
    let cut = subst (λ t. IsCut t (cut_of t)) (sym text) c.whole-text.ensures.cut in
    let rows = c.rows.ensures.rows ∙ ap (λ t. rows_view (cut_of t)) (sym text) in
    let f = entry_found (whole c.whole-text.result) c.rows.result.now c.args.path.now.doc (steps_of c.args.path.now) c.in_ok-entry.entry cut rows
    (c.in_ok-entry.ensures ∙ ap (λ t. numbers_at c.args.path.now.doc (steps_of c.args.path.now) (cut_of t)) (sym text)) in
    ap Some (c.held_in.ensures f.entry f.is)
    ∙ (held_there (whole c.whole-text.result) c.rows.result.now c.args.path.now.doc (steps_of c.args.path.now) c.in_ok-entry.entry f c.if-entry.false
    ∙ ap (λ t. held_at c.args.path.now.doc (steps_of c.args.path.now) (cut_of t)) text)
