use Rattle.std.{proofs.Common.{◌≡◌, eqb, map, Some, refl, sym, ap, ◌∙◌, subst}, proofs.lemmas.List.length-map}
use Rattle.yq_outline.{specs.Lines.lines_of_rows, specs.RowWalk.line_number}
use Rattle.yq_core.specs.Entries.{tree_step}
use Rattle.yq_places.specs.EntryReading.{head_extent, line_content_of, line_head, lines_content}
use Rattle.yq_places.specs.NodeReading.{IsPlace, at_head, at_lines, node_place, place_view}
use Rattle.yq_places.{proofs.NodePlaceLaws.{said_further, said_nowhere, said_there}, proofs.WalkNodes.row_known}
use Rattle.yq_places.proofs.places.content_place.content_of.Goals as goal

pub returns-in_err-place : goal.returns-in_err-place
returns-in_err-place c = rw c.from_residual.ensures (λ cut k.
    let d = c.args.walk.now.document in
    let rs = k.document.are_there.rows in
    said_nowhere (line_head d.first cut rs) (lines_content d.first cut rs) (lines_of_rows rs) (line_content_of d.first cut rs) refl (λ s ss. refl) (map tree_step c.args.steps.now) (c.in_err-place.ensures.found k.document))

pub returns-then-not-is_empty : goal.returns-then-not-is_empty
returns-then-not-is_empty c = λ cut k.
    let d = c.args.walk.now.document in
    let rs = k.document.are_there.rows in
    said_further (line_head d.first cut rs) (lines_content d.first cut rs) (lines_of_rows rs) (line_content_of d.first cut rs) refl (λ s ss. refl) (map tree_step c.args.steps.now)
    (place_view d rs c.in_ok-place.place) (map tree_step c.in_ok-place.left.now) (c.in_ok-place.ensures.found k.document) (c.if-not-is_empty.ensures ∙ sym (ap (λ n. eqb n 0) (length-map c.in_ok-place.left.now tree_step)))

pub returns-in-Head : goal.returns-in-Head
returns-in-Head c = λ cut k.
    let d = c.args.walk.now.document in
    let rs = k.document.are_there.rows in
    let n = line_number d rs c.in-Head.at in
    let left = map tree_step c.in_ok-place.left.now in
    let found : Some (at_head n, left) ≡ node_place (map tree_step c.args.steps.now) (lines_of_rows rs) = ap (λ p. Some (place_view d rs p, left)) (sym c.in-Head.is) ∙ c.in_ok-place.ensures.found k.document in
    row_known c.args.walk.now.rows.now d cut k c.in-Head.at (subst (IsPlace c.args.walk.now.rows.now d) c.in-Head.is c.in_ok-place.ensures.within)
    (λ i r. Some (head_extent i r cut)) _ (λ r is. ap Some (c.head_extent.ensures k.text cut k.cut k.rows r is))
    ∙ said_there (line_head d.first cut rs) (lines_content d.first cut rs) (lines_of_rows rs) (line_content_of d.first cut rs) refl (λ s ss. refl) (map tree_step c.args.steps.now) (at_head n) left found
    (c.if-not-is_empty.ensures ∙ sym (ap (λ m. eqb m 0) (length-map c.in_ok-place.left.now tree_step)))

pub returns-in-Lines : goal.returns-in-Lines
returns-in-Lines c = λ cut k.
    let d = c.args.walk.now.document in
    let rs = k.document.are_there.rows in
    let n = line_number d rs c.in-Lines.from in
    let left = map tree_step c.in_ok-place.left.now in
    let found : Some (at_lines n c.in-Lines.floor, left) ≡ node_place (map tree_step c.args.steps.now) (lines_of_rows rs) = ap (λ p. Some (place_view d rs p, left)) (sym c.in-Lines.is) ∙ c.in_ok-place.ensures.found k.document in
    c.lines_content.ensures cut k
    ∙ said_there (line_head d.first cut rs) (lines_content d.first cut rs) (lines_of_rows rs) (line_content_of d.first cut rs) refl (λ s ss. refl) (map tree_step c.args.steps.now) (at_lines n c.in-Lines.floor) left found
    (c.if-not-is_empty.ensures ∙ sym (ap (λ m. eqb m 0) (length-map c.in_ok-place.left.now tree_step)))
