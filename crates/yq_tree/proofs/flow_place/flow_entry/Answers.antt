use Rattle.std.{proofs.Common.{◌≡◌, eqb, List, ℕ, Option, map, sym, ap, ◌∙◌, subst}, specs.Prelude.option_and_then}
use Rattle.std.proofs.lemmas.List.{length-map}
use Rattle.yq_core.{specs.Entries.tree_step, specs.Places.Placed}
use Rattle.yq_outline.{specs.Ends.reached, specs.Lines.lines_of_rows}
use Rattle.yq_documents.{specs.Located.steps_of, specs.Decoded.decoded_head_flow, specs.Reading.cut_of}
use Rattle.yq_places.{specs.EntryReading.{flow_entry_at, flow_entry_of}, specs.RowWalk.{HasCut, document_row_range}}
use Rattle.yq_places.{proofs.EntryPlaceLaws.{no_flow, no_flow_left}, proofs.WalkDocuments.no_place_found}
use Rattle.yq_lookup.proofs.CutRows.{walk_place}
use Rattle.yq_tree.proofs.FlowEntries.{flow_found}
use Rattle.yq_tree.proofs.flow_place.flow_entry.Goals as goal

pub returns-in_err-walk : goal.returns-in_err-walk
returns-in_err-walk c =
    rw c.from_residual.ensures (no_place_found (cut_of c.of-cut.result) c.args.path.now.doc (λ k cut rs. flow_entry_of k cut rs (steps_of c.args.path.now)) c.in_err-walk.ensures.place
    ∙ ap (λ t. flow_entry_at c.args.path.now (cut_of t)) c.of-cut.ensures)

-- where steps lead nowhere, or to a line, there is no part of a flow collection
pub returns-in_err-at : goal.returns-in_err-at
returns-in_err-at c =
    let u : List ℕ = c.of-cut.result in
    rw c.from_residual-in_err-at.ensures (walk_place u c.args.path.now.doc c.in_ok-walk.walk _ (λ k cut rs. flow_entry_of k cut rs (steps_of c.args.path.now)) c.in_ok-walk.ensures.cut c.in_ok-walk.ensures.place
    (λ k. no_flow c.in_ok-walk.walk.document.first (cut_of u) k.document.are_there.rows (steps_of c.args.path.now)
    (c.in_err-at.ensures.found k.document ∙ ap (λ xs. reached (map tree_step xs) (lines_of_rows k.document.are_there.rows)) c.deref.ensures.value))
    ∙ ap (λ t. flow_entry_at c.args.path.now (cut_of t)) c.of-cut.ensures)

pub returns-then-is_empty : goal.returns-then-is_empty
returns-then-is_empty c =
    let u : List ℕ = c.of-cut.result in
    walk_place u c.args.path.now.doc c.in_ok-walk.walk _ (λ k cut rs. flow_entry_of k cut rs (steps_of c.args.path.now)) c.in_ok-walk.ensures.cut c.in_ok-walk.ensures.place
    (λ k. no_flow_left c.in_ok-walk.walk.document.first (cut_of u) k.document.are_there.rows (steps_of c.args.path.now)
    (map tree_step c.in_ok-at.left.now) _
    (c.in_ok-at.ensures.found k.document ∙ ap (λ xs. reached (map tree_step xs) (lines_of_rows k.document.are_there.rows)) c.deref.ensures.value)
    (c.if-is_empty.ensures ∙ sym (ap (λ n. eqb n 0) (length-map c.in_ok-at.left.now tree_step))))
    ∙ ap (λ t. flow_entry_at c.args.path.now (cut_of t)) c.of-cut.ensures

pub returns : goal.returns
returns c =
    let v : List ℕ = c.args.documents.now in
    let same : c.of-cut.result ≡ v = c.of-cut.ensures in
    let flow : Option Placed = option_and_then decoded_head_flow c.known_head.result in
    let w = c.in_ok-walk.walk in
    let cut : HasCut v w.rows.now = subst (λ x. HasCut x w.rows.now) same c.in_ok-walk.ensures.cut in
    flow_found v w.rows.now c.args.path.now.doc w.document c.in_ok-at.at (steps_of c.args.path.now) (map tree_step c.in_ok-at.left.now) flow _
    cut.cut cut.rows (c.in_ok-walk.ensures.place ∙ ap (λ x. document_row_range c.args.path.now.doc (cut_of x)) same) cut.sound
    c.in_ok-at.ensures.within
    (λ h. c.in_ok-at.ensures.found h ∙ ap (λ xs. reached (map tree_step xs) (lines_of_rows h.are_there.rows)) c.deref.ensures.value) (λ r is. (c.known_head.ensures r is).flow) c.decoded_entry.ensures
    (c.if-is_empty.ensures ∙ sym (ap (λ n. eqb n 0) (length-map c.in_ok-at.left.now tree_step)))
