use Rattle.std.proofs.Common.{List, ℕ, map, ap, ◌∙◌}
use Rattle.yq_core.specs.Entries.{tree_step}
use Rattle.yq_documents.{specs.Located.steps_of, specs.Reading.cut_of}
use Rattle.yq_places.{specs.EntryReading.line_entry_of, proofs.WalkDocuments.no_place_found}
use Rattle.yq_lookup.proofs.CutRows.{walk_place}
use Rattle.yq_lookup.proofs.cut_text.CutText.entry_place.Goals as goal

pub returns-in_err-walk : goal.returns-in_err-walk
returns-in_err-walk c = rw c.from_residual.ensures (no_place_found (cut_of c.args.self.now) c.args.path.now.doc (λ k cut rows. line_entry_of k cut rows (steps_of c.args.path.now)) c.in_err-walk.ensures.place)

pub returns : goal.returns
returns c =
    let t : List ℕ = c.args.self.now in
    walk_place t c.args.path.now.doc c.in_ok-walk.walk _ (λ k cut rows. line_entry_of k cut rows (steps_of c.args.path.now)) c.in_ok-walk.ensures.cut c.in_ok-walk.ensures.place
    (λ k. c.entry_of.ensures (cut_of t) k ∙ ap (λ xs. line_entry_of c.in_ok-walk.walk.document.first (cut_of t) k.document.are_there.rows (map tree_step xs)) c.deref.ensures.value)
