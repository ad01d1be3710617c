use Rattle.std.{proofs.Common.{ℕ, List, length, map, Some, None, refl, sym, ap, ◌∙◌, subst}, specs.Str.IsUtf8}
use Rattle.yq_core.{specs.Entries.tree_step, specs.Paths.Step}
use Rattle.yq_outline.{specs.View.head_flow, specs.RowWalk.line_number, specs.Lines.lines_of_rows}
use Rattle.yq_places.{specs.FlowNodes.flow_collection, specs.NodeReading.place_view}
use Rattle.yq_places.proofs.FlowNodeLaws.{collection_is, agrees_for, head_line_at, head_for, no_collection, no_flow_agrees, no_head_at}
use Rattle.yq_places.{proofs.FlowNodeLaws.{other_head, rows_collection}, proofs.RowHeads.{line_fit, line_within, row_start, row_text}}
use Rattle.yq_places.{proofs.WalkDocuments.found_in_cut, proofs.WalkNodes.{row_is, row_in_cut}}
use Rattle.yq_documents.specs.Reading.{cut_of}
use Rattle.yq_lookup.proofs.CutRows.{walk_found, walk_place}
use Rattle.yq_lookup.proofs.cut_text.CutText.flow_head.Goals as goal

pub row_head-requires-clause-within : goal.row_head-requires-clause-within
row_head-requires-clause-within c =
    let f = walk_found c.args.self.now c.args.doc c.in-Some.walk c.in-Some.ensures.cut c.in-Some.ensures.place in
    let k = found_in_cut c.args.self.now c.in-Some.walk.rows.now (cut_of c.args.self.now) c.args.doc c.in-Some.walk.document c.in-Some.ensures.cut.cut c.in-Some.ensures.cut.rows f in
    line_within c.in-Some.walk.rows.now c.in-Some.walk.document (cut_of c.args.self.now) k.0 c.in-Some-place_line.at c.in-Some-place_line.ensures.within

pub row_head-requires-clause-fit : goal.row_head-requires-clause-fit
row_head-requires-clause-fit c =
    let f = walk_found c.args.self.now c.args.doc c.in-Some.walk c.in-Some.ensures.cut c.in-Some.ensures.place in
    let k = found_in_cut c.args.self.now c.in-Some.walk.rows.now (cut_of c.args.self.now) c.args.doc c.in-Some.walk.document c.in-Some.ensures.cut.cut c.in-Some.ensures.cut.rows f in
    line_fit c.in-Some.walk.rows.now (cut_of c.args.self.now) c.args.doc c.in-Some.walk.document f k.0 c.in-Some-place_line.at k.1 c.in-Some.ensures.cut.sound c.in-Some-place_line.ensures.within

pub returns-in_default-node_place-clause-found : goal.returns-in_default-node_place-clause-found
returns-in_default-node_place-clause-found c =
    let t : List ℕ = c.args.self.now in
    let steps : List Step = map tree_step c.args.steps.now in
    let d = c.in-Some.walk.document in
    no_flow_agrees t (flow_collection c.args.doc steps (cut_of t))
    (walk_place t c.args.doc c.in-Some.walk None (λ k x rs. rows_collection k x rs steps) c.in-Some.ensures.cut c.in-Some.ensures.place
    (λ k. no_collection d.first (cut_of t) k.document.are_there.rows steps (no_head_at (lines_of_rows k.document.are_there.rows) steps (c.in_default-node_place.ensures.found k.document)))
    ∙ collection_is (cut_of t) c.args.doc steps)

pub returns-in_default-place_line-clause-found : goal.returns-in_default-place_line-clause-found
returns-in_default-place_line-clause-found c =
    let t : List ℕ = c.args.self.now in
    let steps : List Step = map tree_step c.args.steps.now in
    let d = c.in-Some.walk.document in
    no_flow_agrees t (flow_collection c.args.doc steps (cut_of t))
    (walk_place t c.args.doc c.in-Some.walk None (λ k x rs. rows_collection k x rs steps) c.in-Some.ensures.cut c.in-Some.ensures.place
    (λ k. no_collection d.first (cut_of t) k.document.are_there.rows steps
    (head_line_at (lines_of_rows k.document.are_there.rows) steps (map tree_step c.in-Some-node_place.left.now)
    (place_view d k.document.are_there.rows c.in-Some-node_place.place) None (c.in-Some-node_place.ensures.found k.document)
    (c.in_default-place_line.ensures.found k.document.are_there)))
    ∙ collection_is (cut_of t) c.args.doc steps)

pub returns-in-Nothing-clause-found : goal.returns-in-Nothing-clause-found
returns-in-Nothing-clause-found c =
    let t : List ℕ = c.args.self.now in
    let steps : List Step = map tree_step c.args.steps.now in
    let left : List Step = map tree_step c.in-Some-node_place.left.now in
    let rows = c.in-Some.walk.rows.now in
    let d = c.in-Some.walk.document in
    let q = c.in-Some-place_line.at in
    let at = c.in-Some-place_line.ensures.within in
    let cut = c.in-Some.ensures.cut.cut in
    let f = walk_found t c.args.doc c.in-Some.walk c.in-Some.ensures.cut c.in-Some.ensures.place in
    let k = (found_in_cut t rows (cut_of t) c.args.doc d cut c.in-Some.ensures.cut.rows f).0 in
    let leads = head_line_at (lines_of_rows k.document.are_there.rows) steps left (place_view d k.document.are_there.rows c.in-Some-node_place.place)
    (Some (line_number d k.document.are_there.rows q)) (c.in-Some-node_place.ensures.found k.document)
    (c.in-Some-place_line.ensures.found k.document.are_there) in
    let head = c.in_ok-head.ensures (row_is rows d (cut_of t) k q at) (row_in_cut rows d (cut_of t) k q at) in
    other_head t rows (cut_of t) c.args.doc d cut c.in-Some.ensures.cut.rows f q at steps left (sym leads) (length c.in_ok-head.text.now) (ap head_flow (sym c.in-Nothing.is) ∙ head.flow)

pub returns-in-Scalar-clause-found : goal.returns-in-Scalar-clause-found
returns-in-Scalar-clause-found c =
    let t : List ℕ = c.args.self.now in
    let steps : List Step = map tree_step c.args.steps.now in
    let left : List Step = map tree_step c.in-Some-node_place.left.now in
    let rows = c.in-Some.walk.rows.now in
    let d = c.in-Some.walk.document in
    let q = c.in-Some-place_line.at in
    let at = c.in-Some-place_line.ensures.within in
    let cut = c.in-Some.ensures.cut.cut in
    let f = walk_found t c.args.doc c.in-Some.walk c.in-Some.ensures.cut c.in-Some.ensures.place in
    let k = (found_in_cut t rows (cut_of t) c.args.doc d cut c.in-Some.ensures.cut.rows f).0 in
    let leads = head_line_at (lines_of_rows k.document.are_there.rows) steps left (place_view d k.document.are_there.rows c.in-Some-node_place.place)
    (Some (line_number d k.document.are_there.rows q)) (c.in-Some-node_place.ensures.found k.document)
    (c.in-Some-place_line.ensures.found k.document.are_there) in
    let head = c.in_ok-head.ensures (row_is rows d (cut_of t) k q at) (row_in_cut rows d (cut_of t) k q at) in
    other_head t rows (cut_of t) c.args.doc d cut c.in-Some.ensures.cut.rows f q at steps left (sym leads) (length c.in_ok-head.text.now) (ap head_flow (sym c.in-Scalar.is) ∙ head.flow)

pub returns-clause-whole : goal.returns-clause-whole
returns-clause-whole c =
    let t : List ℕ = c.args.self.now in
    let utf8 = subst IsUtf8 c.self.view_is c.is_text.ensures in
    let steps : List Step = map tree_step c.args.steps.now in
    let left : List Step = map tree_step c.in-Some-node_place.left.now in
    let rows = c.in-Some.walk.rows.now in
    let d = c.in-Some.walk.document in
    let q = c.in-Some-place_line.at in
    let at = c.in-Some-place_line.ensures.within in
    let cut = c.in-Some.ensures.cut.cut in
    let f = walk_found t c.args.doc c.in-Some.walk c.in-Some.ensures.cut c.in-Some.ensures.place in
    let k = (found_in_cut t rows (cut_of t) c.args.doc d cut c.in-Some.ensures.cut.rows f).0 in
    let leads = head_line_at (lines_of_rows k.document.are_there.rows) steps left (place_view d k.document.are_there.rows c.in-Some-node_place.place)
    (Some (line_number d k.document.are_there.rows q)) (c.in-Some-node_place.ensures.found k.document)
    (c.in-Some-place_line.ensures.found k.document.are_there) in
    let row = row_is rows d (cut_of t) k q at in
    let there = row_in_cut rows d (cut_of t) k q at in
    let head = c.in_ok-head.ensures row there in
    head_for t rows (cut_of t) c.args.doc d cut c.in-Some.ensures.cut.rows f q at steps left (sym leads) _ refl
    (row_text t (cut_of t) q.row row c.in_ok-head.before utf8 cut there head.before_is c.in_ok-head.text.now head.text_is)
    (row_start t (cut_of t) q.row row c.in_ok-head.before utf8 cut there head.before_is)
    head.text_is
    (ap head_flow (sym c.in-Inline.is) ∙ head.flow)

pub returns-clause-found : goal.returns-clause-found
returns-clause-found c = agrees_for c.args.self.now (cut_of c.args.self.now) c.args.doc (map tree_step c.args.steps.now) _ (returns-clause-whole c)
