use Rattle.std.proofs.Common.{Some, sym, ap, ◌∙◌}
use Rattle.yq_documents.{specs.Located.steps_of, specs.Reading.cut_of}
use Rattle.yq_places.{specs.RemovalPlaces.removal_place, proofs.RemovalViewLaws.{none_taken, taken_at}}
use Rattle.yq_lookup.proofs.cut_text.CutText.removal.Goals as goal

pub returns-in_err-marks : goal.returns-in_err-marks
returns-in_err-marks c = rw c.from_residual.ensures (none_taken c.args.path.now.doc (steps_of c.args.path.now) (cut_of c.args.self.now) c.in_err-marks.ensures)

pub rows_out-requires : goal.rows_out-requires
rows_out-requires c =
    let x = rw (← c.whole-whole.ensures.text) at (taken_at c.args.self.now c.rows.result.now c.args.path.now.doc (steps_of c.args.path.now) _ c.whole-whole.ensures.cut c.rows.ensures.rows c.in_ok-marks.ensures) in
    record { part = x.part; rows = x.rows; is = x.is }

pub returns : goal.returns
returns c =
    let x = rw (← c.whole-whole.ensures.text) at (taken_at c.args.self.now c.rows.result.now c.args.path.now.doc (steps_of c.args.path.now) _ c.whole-whole.ensures.cut c.rows.ensures.rows c.in_ok-marks.ensures) in
    ap Some (c.rows_out.ensures x.part x.rows x.is) ∙ (sym x.place ∙ ap (λ t. removal_place c.args.path.now.doc (steps_of c.args.path.now) (cut_of t)) c.whole-whole.ensures.text)
