use Rattle.std.proofs.Common.{refl, ℕ, List, map, Option, None, Some, sym, ap, ◌∙◌}
use Rattle.yq_core.{specs.Entries.tree_step, specs.Answers.◌>>=◌, specs.Paths.Step}
use Rattle.yq_row_table.specs.Exchange.{after_row}
use Rattle.yq_outline.{specs.Lines.{lines_of_rows, head_of}, specs.RowWalk.line_number, specs.View.head_view}
use Rattle.yq_documents.specs.Reading.{cut_of}
use Rattle.yq_places.specs.NodeReading.{NodePlace, place_node, place_view}
use Rattle.yq_places.proofs.FlowNodeLaws.{collection_at, collection_is, head_line_at, no_collection, no_head_at, rows_collection}
use Rattle.yq_places.{proofs.NodeAtLaws.{node_among, block_numbers_of, head_agrees, node_is}, proofs.RowHeads.{line_fit, line_within}}
use Rattle.yq_places.{proofs.WalkDocuments.{found_in_cut, no_place_found}, proofs.WalkNodes.{row_is, row_in_cut}}
use Rattle.yq_lookup.{proofs.CutRows.{walk_found, walk_place}, proofs.RowNodes.{none_there, summary_there}}
use Rattle.yq_lookup.proofs.cut_text.CutText.node_found.Goals as goal

pub row_front-requires : goal.row_front-requires
row_front-requires c =
    let f = walk_found c.args.self.now c.args.doc c.in-Some.walk c.in-Some.ensures.cut c.in-Some.ensures.place in
    let k = found_in_cut c.args.self.now c.in-Some.walk.rows.now (cut_of c.args.self.now) c.args.doc c.in-Some.walk.document c.in-Some.ensures.cut.cut c.in-Some.ensures.cut.rows f in
    line_within c.in-Some.walk.rows.now c.in-Some.walk.document (cut_of c.args.self.now) k.0 c.in-Some-place_line.at c.in-Some-place_line.ensures.within

pub row_head-requires-clause-within : goal.row_head-requires-clause-within
row_head-requires-clause-within c =
    let f = walk_found c.args.self.now c.args.doc c.in-Some.walk c.in-Some.ensures.cut c.in-Some.ensures.place in
    let k = found_in_cut c.args.self.now c.in-Some.walk.rows.now (cut_of c.args.self.now) c.args.doc c.in-Some.walk.document c.in-Some.ensures.cut.cut c.in-Some.ensures.cut.rows f in
    line_within c.in-Some.walk.rows.now c.in-Some.walk.document (cut_of c.args.self.now) k.0 c.in-Some-place_line.at c.in-Some-place_line.ensures.within

pub row_head-requires-clause-fit : goal.row_head-requires-clause-fit
row_head-requires-clause-fit c =
    let f = walk_found c.args.self.now c.args.doc c.in-Some.walk c.in-Some.ensures.cut c.in-Some.ensures.place in
    let k = found_in_cut c.args.self.now c.in-Some.walk.rows.now (cut_of c.args.self.now) c.args.doc c.in-Some.walk.document c.in-Some.ensures.cut.cut c.in-Some.ensures.cut.rows f in
    line_fit c.in-Some.walk.rows.now (cut_of c.args.self.now) c.args.doc c.in-Some.walk.document f k.0 c.in-Some-place_line.at k.1 c.in-Some.ensures.cut.sound c.in-Some-place_line.ensures.within

pub returns-in_default : goal.returns-in_default
returns-in_default c =
    let t : List ℕ = c.args.self.now in
    let steps : List Step = map tree_step c.args.steps.now in
    record {
      flow = sym (no_place_found (cut_of t) c.args.doc (λ k x rs. rows_collection k x rs steps) c.in_default.ensures.place ∙ collection_is (cut_of t) c.args.doc steps);
      node = none_there (cut_of t) c.args.doc steps c.in_default.ensures.place;
    }

pub returns-in_default-node_place : goal.returns-in_default-node_place
returns-in_default-node_place c =
    let t : List ℕ = c.args.self.now in
    let steps : List Step = map tree_step c.args.steps.now in
    let d = c.in-Some.walk.document in
    record {
      flow = sym (walk_place t c.args.doc c.in-Some.walk None (λ k x rs. rows_collection k x rs steps) c.in-Some.ensures.cut c.in-Some.ensures.place
          (λ k. no_collection d.first (cut_of t) k.document.are_there.rows steps (no_head_at (lines_of_rows k.document.are_there.rows) steps (c.in_default-node_place.ensures.found k.document)))
          ∙ collection_is (cut_of t) c.args.doc steps);
      node = walk_place t c.args.doc c.in-Some.walk None (node_among steps) c.in-Some.ensures.cut c.in-Some.ensures.place
          (λ k. ap (λ (o : Option (NodePlace × List Step)). o >>= λ x. place_node (lines_of_rows k.document.are_there.rows) x.0 x.1) (c.in_default-node_place.ensures.found k.document))
          ∙ node_is (cut_of t) c.args.doc steps 0 c.in-Some.ensures.cut.sound;
    }

pub returns-in_default-place_line : goal.returns-in_default-place_line
returns-in_default-place_line c =
    let t : List ℕ = c.args.self.now in
    let steps : List Step = map tree_step c.args.steps.now in
    let d = c.in-Some.walk.document in
    record {
      flow = sym (walk_place t c.args.doc c.in-Some.walk None (λ k x rs. rows_collection k x rs steps) c.in-Some.ensures.cut c.in-Some.ensures.place
          (λ k. no_collection d.first (cut_of t) k.document.are_there.rows steps
          (head_line_at (lines_of_rows k.document.are_there.rows) steps (map tree_step c.in-Some-node_place.left.now)
          (place_view d k.document.are_there.rows c.in-Some-node_place.place) None (c.in-Some-node_place.ensures.found k.document)
          (c.in_default-place_line.ensures.found k.document.are_there)))
          ∙ collection_is (cut_of t) c.args.doc steps);
      node = walk_place t c.args.doc c.in-Some.walk _ (node_among steps) c.in-Some.ensures.cut c.in-Some.ensures.place
          (λ k. c.block_node-node.ensures k.document.are_there (sym (c.in_default-place_line.ensures.found k.document.are_there))
          ∙ block_numbers_of (lines_of_rows k.document.are_there.rows) steps (map tree_step c.in-Some-node_place.left.now)
          (place_view d k.document.are_there.rows c.in-Some-node_place.place) (c.in-Some-node_place.ensures.found k.document)
          (c.in_default-place_line.ensures.found k.document.are_there))
          ∙ node_is (cut_of t) c.args.doc steps 0 c.in-Some.ensures.cut.sound;
    }

pub returns-in_ok-node-in-None : goal.returns-in_ok-node-in-None
returns-in_ok-node-in-None c =
    let t : List ℕ = c.args.self.now in
    let steps : List Step = map tree_step c.args.steps.now in
    let left : List Step = map tree_step c.in-Some-node_place.left.now in
    let rows = c.in-Some.walk.rows.now in
    let d = c.in-Some.walk.document in
    let q = c.in-Some-place_line.at in
    let at = c.in-Some-place_line.ensures.within in
    let cut = c.in-Some.ensures.cut.cut in
    let f = walk_found t c.args.doc c.in-Some.walk c.in-Some.ensures.cut c.in-Some.ensures.place in
    let k = (found_in_cut t rows (cut_of t) c.args.doc d cut c.in-Some.ensures.cut.rows f).0 in
    let leads = head_line_at (lines_of_rows k.document.are_there.rows) steps left (place_view d k.document.are_there.rows c.in-Some-node_place.place)
    (Some (line_number d k.document.are_there.rows q)) (c.in-Some-node_place.ensures.found k.document)
    (c.in-Some-place_line.ensures.found k.document.are_there) in
    record {
      flow = collection_at t rows (cut_of t) c.args.doc d cut c.in-Some.ensures.cut.rows f q at steps left (sym leads)
          ∙ c.in-None.ensures (row_is rows d (cut_of t) k q at) (row_in_cut rows d (cut_of t) k q at) left;
      node = c.in_ok-node-in-None.ensures
          ∙ (walk_place t c.args.doc c.in-Some.walk _ (node_among steps) c.in-Some.ensures.cut c.in-Some.ensures.place
          (λ k. head_agrees rows d (cut_of t) k q at steps left (place_view d k.document.are_there.rows c.in-Some-node_place.place)
          (head_view c.in_ok-head-in-None.head) (c.in-Some-node_place.ensures.found k.document) (c.in-Some-place_line.ensures.found k.document.are_there)
          (c.in_ok-head-in-None.ensures (row_is rows d (cut_of t) k q at) (row_in_cut rows d (cut_of t) k q at)).view)
          ∙ node_is (cut_of t) c.args.doc steps 0 c.in-Some.ensures.cut.sound);
    }

pub returns-in-Some-row_front : goal.returns-in-Some-row_front
returns-in-Some-row_front c =
    let t : List ℕ = c.args.self.now in
    let steps : List Step = map tree_step c.args.steps.now in
    let left : List Step = map tree_step c.in-Some-node_place.left.now in
    let rows = c.in-Some.walk.rows.now in
    let d = c.in-Some.walk.document in
    let q = c.in-Some-place_line.at in
    let at = c.in-Some-place_line.ensures.within in
    let cut = c.in-Some.ensures.cut.cut in
    let f = walk_found t c.args.doc c.in-Some.walk c.in-Some.ensures.cut c.in-Some.ensures.place in
    let k = (found_in_cut t rows (cut_of t) c.args.doc d cut c.in-Some.ensures.cut.rows f).0 in
    let leads = head_line_at (lines_of_rows k.document.are_there.rows) steps left (place_view d k.document.are_there.rows c.in-Some-node_place.place)
    (Some (line_number d k.document.are_there.rows q)) (c.in-Some-node_place.ensures.found k.document)
    (c.in-Some-place_line.ensures.found k.document.are_there) in
    record {
      flow = record {
        row = row_is rows d (cut_of t) k q at;
        after = after_row q.row (cut_of t);
        front = c.in-Some-row_front.ensures (row_is rows d (cut_of t) k q at) (row_in_cut rows d (cut_of t) k q at);
        found = collection_at t rows (cut_of t) c.args.doc d cut c.in-Some.ensures.cut.rows f q at steps left (sym leads);
      };
      node =
          walk_place t c.args.doc c.in-Some.walk _ (node_among steps) c.in-Some.ensures.cut c.in-Some.ensures.place
          (λ k. summary_there t (after_row q.row (cut_of t)) (row_is rows d (cut_of t) k q at) _
          (c.in-Some-row_front.ensures (row_is rows d (cut_of t) k q at) (row_in_cut rows d (cut_of t) k q at)) left
          ∙ head_agrees rows d (cut_of t) k q at steps left (place_view d k.document.are_there.rows c.in-Some-node_place.place)
          (head_of (row_is rows d (cut_of t) k q at).content) (c.in-Some-node_place.ensures.found k.document) (c.in-Some-place_line.ensures.found k.document.are_there) refl)
          ∙ node_is (cut_of t) c.args.doc steps 0 c.in-Some.ensures.cut.sound;
    }
