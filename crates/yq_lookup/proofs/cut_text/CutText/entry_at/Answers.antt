use Rattle.std.proofs.Common.{List, ℕ, map, option_map}
use Rattle.yq_core.specs.Entries.{tree_step}
use Rattle.yq_documents.{specs.Reading.cut_of, specs.LinesInRows.row_line_of}
use Rattle.yq_places.{specs.PlacementReading.numbers_of_entry, proofs.WalkDocuments.no_place_found}
use Rattle.yq_lookup.proofs.CutRows.{walk_place}
use Rattle.yq_lookup.proofs.cut_text.CutText.entry_at.Goals as goal

pub returns-in_err-walk : goal.returns-in_err-walk
returns-in_err-walk c =
    rw c.from_residual.ensures (no_place_found (cut_of c.args.self.now) c.args.doc (λ k cut rows. option_map (numbers_of_entry k rows) (row_line_of (map tree_step c.args.steps.now) rows)) c.in_err-walk.ensures.place)

pub returns : goal.returns
returns c =
    let t : List ℕ = c.args.self.now in
    walk_place t c.args.doc c.in_ok-walk.walk _ (λ k cut rows. option_map (numbers_of_entry k rows) (row_line_of (map tree_step c.args.steps.now) rows)) c.in_ok-walk.ensures.cut c.in_ok-walk.ensures.place
    (λ k. c.entry_along.ensures k.document)
