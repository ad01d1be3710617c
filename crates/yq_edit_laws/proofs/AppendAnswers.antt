-- What putting an item or entry into a flow collection comes to, by what the code finds.
use Rattle.std.proofs.Common.{rules, ◌≡◌, inl, inr, ℕ, ◌-◌, Bool, true, false, cond, List, length, Option, Some, None, option_map, sym, ap}
use Rattle.std.{proofs.Common.{◌∙◌, subst, refl}, proofs.lemmas.Option.{none-some, same_Some}, specs.Prelude.String}
use Rattle.std.specs.declared.alloc.Global.{Global}
use Rattle.yq_core.{specs.Answers.◌>>=◌, specs.Paths.Step, specs.Tree.Node, specs.Collections.{CollAt, CollPieces}}
use Rattle.yq_core.{specs.Places.{Placed, placed, locate}, specs.Nodes.key_text, specs.NodesWritten.{flow_key, flow_of, flow_text}}
use Rattle.yq_flow_edits.{specs.FlowEdits.{FlowEdit, appending}, specs.FlowPlaces.{PlacedEdit, append_place, edit_view, place_edit}}
use Rattle.yq_flow_edits.specs.declared.flow_place.EditPlace.{EditPlace}
use Rattle.yq_text.specs.Script.{Segment}
use Rattle.yq_row_table.specs.Rows.{Cut, cut_text}
use Rattle.yq_documents.specs.Reading.{cut_of, read_at}
use Rattle.yq_places.{specs.FlowNodes.flow_collection, specs.FlowViews.{following_anchor, placed_collection}}
use Rattle.yq_places.{specs.declared.places.flow_node.FlowHead.FlowHead, proofs.PrintedTexts.map_some, proofs.FlowNodeLaws.with_more}
use Rattle.yq_lookup.specs.RowFronts.{IsFlowFront}
use Rattle.yq_inline.{specs.Neighbours.{coll_end, end_view}, specs.declared.neighbours.CollectionEnd.CollectionEnd}
use Rattle.yq_edit_rules.specs.FlowParts.{flow_more, flow_segments, takes_key}
use Rattle.yq_edit_laws.specs.EditPlaces.{end_place, keyed_takes, moved_on, placed_takes}
use Rattle.yq_edit_laws.specs.PartPuts.{AreMore, IsEditPlace, PutsMoreIn, more_edit, place_after}
use Rattle.yq_edit_laws.{proofs.FlowAnswers.{CollFound, EditFound, edit_lies, edit_moved}, proofs.NeighbourPlaces.end_is_there}
use Rattle.yq_edit_laws.proofs.PiecePlaces.{Front, all_is, at_front, front_coll, piece_found, place_found}
use Rattle.yq_edit_laws.{proofs.FlowAppendLaws.{bounds, there}, proofs.FlowHeads.{append_found, appended_within, whole_is, appending_more}}

-- whether the collection takes it
core_takes : (q : Placed) (key : Option (List ℕ)) → placed_takes (following_anchor q) key ≡ placed_takes q key
core_takes (placed a b c e f) key = refl

takes_is : (total : ℕ) (w : CollPieces) (key : Option (List ℕ)) → placed_takes (placed_collection total w) key ≡ takes_key w.close key
unfolding locate
takes_is total w key = search rules

-- where it is written
core_append : (q : Placed) → append_place (following_anchor q) ≡ append_place q
core_append (placed a b c e f) = refl

module _ (c : Cut) (n : ℕ) (steps : List Step) (key : Option (List ℕ)) (v : Node) (x : FlowHead) (q : Placed) (f : CollFound c n steps x q) where
  abbrev own : CollPieces
  own = f.agrees.at.coll

  abbrev edit : CollPieces → FlowEdit
  edit = appending (flow_key key) (flow_of v)

  own_takes : placed_takes q key ≡ takes_key f.coll.close key
  own_takes = search (rules, core_takes, f.node, takes_is, whole_is, f.coll, f.agrees)

  pub more_apart : placed_takes q key ≡ false → (flow_collection n steps c >>= flow_more (cut_text c) key v) ≡ None
  more_apart takes =
      ap (λ (y : Option CollPieces). y >>= flow_more (cut_text c) key v) f.found ∙ ap (λ (k : Bool). cond k (Some (flow_segments (cut_text c) (edit f.coll))) None) (sym own_takes ∙ takes)

  place_is : append_place q ≡ Some (place_edit (length x.text.now) (edit own))
  place_is =
      sym (core_append q)
      ∙ (ap append_place f.node
      ∙ subst (λ (l : List ℕ). append_place (placed_collection (length l) own) ≡ Some (place_edit (length l) (edit own))) (sym f.agrees.node_is) (append_found f.agrees.at f.agrees.is_located (flow_key key) (flow_of v)))

  pub takes_there : placed_takes q key ≡ true → takes_key f.coll.close key ≡ true
  takes_there takes = sym own_takes ∙ takes

  pub more_placed : (r : EditPlace) → Some (edit_view r) ≡ append_place q → IsEditPlace (cut_text c) (more_edit key v f.coll) (place_after x.before r)
  more_placed r is =
      let same = ap edit (whole_is (cut_text c) f.coll x f.agrees) ∙ appending_more (flow_key key) (flow_of v) f.agrees.after own in
      let moved = edit_moved c n steps x q f (edit f.coll) (edit own) (edit_view r) same (appended_within f.agrees.at f.agrees.is_located (flow_key key) (flow_of v)) (same_Some _ _ (is ∙ place_is)) in
      let s = there c n steps key v f.coll f.read f.found in
      record { lies = edit_lies c n steps x q f (edit f.coll) (edit_view r) (bounds c n steps key v f.coll f.read f.found) moved; place_is = moved; before = s.before; text = s.text }

  -- so what the code puts into the node is what is put into the collection
  pub more_found : (o : Option (EditPlace × String Global)) → PutsMoreIn q key v o → AreMore n steps key v c x.before o
  more_found None (inl apart) = more_apart apart
  more_found None (inr none) = absurd (none-some _ (sym none ∙ place_is))
  more_found (Some p) h = (f.coll, f.found, (takes_there h.0, more_placed p.0 (sym h.1), h.2))

-- ---- by the end of the collection

module _ (t : List ℕ) (n : ℕ) (steps : List Step) (x : Front) (w : IsFlowFront t n steps x) (key : Option (List ℕ)) (v : Node) where
  abbrev put : Option (List Segment)
  put = flow_collection n steps (cut_of t) >>= flow_more (cut_text (cut_of t)) key v

  -- there is none
  pub no_collection : None ≡ option_map coll_end (front_coll x) → put ≡ None
  no_collection e = search (rules, all_is t n steps x w, none-some)

  module _ (y : CollectionEnd) (is : Some (end_view y) ≡ option_map coll_end (front_coll x)) where
    abbrev z : (z : CollPieces) × (front_coll x ≡ Some z) × (coll_end z ≡ end_view y)
    z = map_some (front_coll x) (sym is)

    abbrev whole_coll : CollPieces
    whole_coll = with_more w.after z.0

    abbrev edited : CollPieces → FlowEdit
    edited = appending (flow_key key) (flow_of v)

    put_is : put ≡ cond (takes_key z.0.close key) (Some (flow_segments (cut_text (cut_of t)) (edited whole_coll))) None
    put_is = ap (λ (o : Option CollPieces). o >>= flow_more (cut_text (cut_of t)) key v) (all_is t n steps x w ∙ ap (option_map (with_more w.after)) z.1)

    -- whether the collection takes it
    keyed_is : keyed_takes y.keyed key ≡ takes_key z.0.close key
    keyed_is = ap (λ (e : Bool × Bool × List ℕ). keyed_takes e.0 key) (sym z.2)

    pub kept_apart : keyed_takes y.keyed key ≡ false → put ≡ None
    kept_apart takes = put_is ∙ ap (λ (k : Bool). cond k (Some (flow_segments (cut_text (cut_of t)) (edited whole_coll))) None) (sym keyed_is ∙ takes)

    -- where it is written
    pub taken : read_at t ≡ Some (cut_of t) → (whole : List ℕ) (p : PlacedEdit) → whole ≡ cut_text (cut_of t) → p ≡ end_place y.some (length x.0.text.now - length y.rest.now) → keyed_takes y.keyed key ≡ true →
        EditFound put whole (moved_on x.1 p) (key_text (flow_key key) (flow_text v))
    taken read whole p all is takes =
        let f = piece_found t n steps x w read z.0 z.1 in
        let at : CollAt = at_front t n steps x w z.0 in
        let s = there (cut_of t) n steps key v whole_coll f.read f.found in
        let place : p ≡ place_edit (length x.0.text.now) (edited z.0) =
        is ∙ (ap (λ (e : Bool × Bool × List ℕ). end_place e.1 (length x.0.text.now - length e.2)) (sym z.2) ∙ end_is_there (length x.0.text.now) (flow_key key) (flow_of v) z.0) in
        subst (λ (o : Option (List Segment)). EditFound o whole (moved_on x.1 p) (key_text (flow_key key) (flow_text v)))
        (sym (put_is ∙ ap (λ (k : Bool). cond k (Some (flow_segments (cut_text (cut_of t)) (edited whole_coll))) None) (sym keyed_is ∙ takes)))
        (place_found (cut_of t) n steps x.0.text.now x.1 w.after at f (edited whole_coll) (edited z.0) s.before whole p (appending_more (flow_key key) (flow_of v) w.after z.0)
        (appended_within at f.is_located (flow_key key) (flow_of v)) (bounds (cut_of t) n steps key v whole_coll f.read f.found) s.text place all)
