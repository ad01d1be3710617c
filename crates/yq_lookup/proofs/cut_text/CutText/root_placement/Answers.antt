use Rattle.std.proofs.Common.{[], Some, option_map, sym, ap, ◌∙◌}
use Rattle.yq_documents.specs.Reading.{cut_of}
use Rattle.yq_places.{specs.Placements.placement_at, specs.PlacementViews.piece_view}
use Rattle.yq_places.proofs.RootPlacementLaws.{bare_is_there, none_is_there, root_found}
use Rattle.yq_lookup.proofs.CutRows.{walk_found}
use Rattle.yq_lookup.proofs.cut_text.CutText.root_placement.Goals as goal

pub returns-in-Some : goal.returns-in-Some
returns-in-Some c = bare_is_there c.args.doc (cut_of c.args.self.now) (piece_view c.in-Some.place) (sym (ap (option_map piece_view) c.in-Some.is) ∙ c.no_rows.ensures)

pub returns-in_err-walk-in-None : goal.returns-in_err-walk-in-None
returns-in_err-walk-in-None c = rw c.from_residual.ensures (none_is_there c.args.doc (cut_of c.args.self.now) c.in_err-walk-in-None.ensures.place)

pub rows_placement-requires : goal.rows_placement-requires
rows_placement-requires c =
    let d = c.in_ok-walk-in-None.walk.document in
    let f = walk_found c.args.self.now c.args.doc c.in_ok-walk-in-None.walk c.in_ok-walk-in-None.ensures.cut c.in_ok-walk-in-None.ensures.place in
    (rw (← c.whole-text.ensures.text) at
    (root_found c.args.self.now c.in_ok-walk-in-None.walk.rows.now c.args.doc d c.whole-text.ensures.cut c.in_ok-walk-in-None.ensures.cut.rows f
    (sym (ap (option_map piece_view) c.in-None.is) ∙ c.no_rows.ensures))).is

pub returns-in_ok-walk-in-None : goal.returns-in_ok-walk-in-None
returns-in_ok-walk-in-None c =
    let d = c.in_ok-walk-in-None.walk.document in
    let f = walk_found c.args.self.now c.args.doc c.in_ok-walk-in-None.walk c.in_ok-walk-in-None.ensures.cut c.in_ok-walk-in-None.ensures.place in
    let r = rw (← c.whole-text.ensures.text) at
    (root_found c.args.self.now c.in_ok-walk-in-None.walk.rows.now c.args.doc d c.whole-text.ensures.cut c.in_ok-walk-in-None.ensures.cut.rows f
    (sym (ap (option_map piece_view) c.in-None.is) ∙ c.no_rows.ensures)) in
    ap Some (c.rows_placement.ensures r.is) ∙ (sym r.place ∙ ap (λ t. placement_at c.args.doc [] (cut_of t)) c.whole-text.ensures.text)
