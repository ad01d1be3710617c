-- What the code finds of flow collections, and where the edits of these are in a text.
use Rattle.std.proofs.lemmas.Grind.{common_steps}
use Rattle.std.proofs.Common.{rules, ◌≡◌, ℕ, ◌-◌, ◌≤◌, List, [], ◌∷◌, ◌++◌, length, map, take, drop, slice_index_or, Option, Some}
use Rattle.std.proofs.Common.{option_map, refl, sym, ap, ◌∙◌, subst, arith, append_assoc, length-append}
use Rattle.std.{proofs.Math.Seq.{take-append_seam, drop-append_seam}, specs.Str.IsCharBoundary}
use Rattle.yq_core.{specs.Paths.Step, specs.Collections.CollPieces, specs.Entries.{EntryPieces, item_at}, specs.Nodes.node_text}
use Rattle.yq_core.specs.Places.{Placed}
use Rattle.yq_flow_edits.{specs.FlowEdits.FlowEdit, specs.FlowPlaces.{PlacedEdit, place_edit}}
use Rattle.yq_row_table.specs.Rows.{Cut, cut_text}
use Rattle.yq_documents.specs.Reading.{cut_of, read_at}
use Rattle.yq_places.specs.FlowNodes.{flow_collection}
use Rattle.yq_places.specs.FlowViews.{IsHeadOfSteps, FlowAgrees, following_anchor, collection_view, placed_collection}
use Rattle.yq_places.{specs.Placements.{FlowPart, flow_placement, last_step}, specs.declared.places.flow_node.FlowHead.FlowHead}
use Rattle.yq_places.proofs.FlowNodeLaws.{entry_more}
use Rattle.yq_text.specs.Script.{Segment, keep, put}
use Rattle.yq_edit_rules.specs.FlowParts.{flow_segments}
use Rattle.yq_edit_laws.{specs.EditPlaces.{LiesIn, edit_segments, moved_on}, proofs.CutLaws.{text_read, text_small}}
use Rattle.yq_edit_laws.{proofs.FlowHeads.{agrees_there, in_text, item_whole, edit_more}, proofs.FlowPlacements.EntryAt}

-- ---- the last step

abbrev Last : Type 0
Last = List Step × Step

last_agrees : {A : Type 0} (f : A → Step) (x d : A) (xs : List A) → last_step (map f (x ∷ xs)) ≡ Some (map f (take (length xs) (x ∷ xs)), f (slice_index_or (x ∷ xs) (length xs) d))
last_agrees f x d [] = refl
last_agrees f x d (y ∷ xs) = ap (option_map {T = Last} {U = Last} (λ (z : Last). (f x ∷ z.0, z.1))) (last_agrees f y d xs)

pub steps_last : {A : Type 0} (f : A → Step) (x : A) (xs : List A) → 1 ≤ length xs → x ≡ slice_index_or xs (length xs - 1) x → ◌≡◌ {A = Option Last} (Some (map f (take (length xs - 1) xs), f x)) (last_step (map f xs))
steps_last f x xs some is = grind (arith, common_steps, last_agrees)

-- ---- the bytes of an edit

-- the pieces of a text at the place of an edit
pub segments_at : (t before : List ℕ) (e : FlowEdit) → t ≡ before ++ (e.old ++ e.after) → edit_segments t (place_edit (length t) e) e.written ≡ flow_segments t e
segments_at t before e is =
    let n : ℕ = length t - length (e.old ++ e.after) in
    let m : ℕ = length t - length e.after in
    let whole : t ≡ (before ++ e.old) ++ e.after = is ∙ sym (append_assoc before e.old e.after) in
    let start : n ≡ length before = omega (arith, ap length is, length-append before (e.old ++ e.after)) in
    let end_ : m ≡ length (before ++ e.old) = omega (arith, ap length whole, length-append (before ++ e.old) e.after) in
    let front : take m t ≡ before ++ e.old = (λ i. take (end_ i) (whole i)) ∙ take-append_seam (before ++ e.old) e.after in
    let old : drop n (take m t) ≡ e.old = (λ i. drop (start i) (front i)) ∙ drop-append_seam before e.old in
    let after : drop m t ≡ e.after = (λ i. drop (end_ i) (whole i)) ∙ drop-append_seam (before ++ e.old) e.after in
    λ i. keep (take n t) ∷ (put (old i) e.lead ∷ (put [] e.written ∷ (keep (after i) ∷ [])))

edit_order : (t : List ℕ) (e : FlowEdit) → (place_edit (length t) e).start ≤ (place_edit (length t) e).end
edit_order t e = omega (arith, length-append e.old e.after)

-- ---- a collection that is found

-- The code finds the flow collection at a path: in a node in the head of a row.
pub record CollFound (c : Cut) (n : ℕ) (steps : List Step) (x : FlowHead) (q : Placed) : Type 0 where
  pub read : read_at (cut_text c) ≡ Some c
  pub coll : CollPieces
  pub found : flow_collection n steps c ≡ Some coll
  pub agrees : IsHeadOfSteps (cut_text c) coll x
  pub node : following_anchor q ≡ placed_collection (length x.text.now) agrees.at.coll

-- by what it tells
pub coll_found : (t : List ℕ) (n : ℕ) (steps : List Step) (o : Option FlowHead) (x : FlowHead) (q : Placed) → read_at t ≡ Some (cut_of t) →
    FlowAgrees t (flow_collection n steps (cut_of t)) o → o ≡ Some x → Some (following_anchor q) ≡ collection_view x →
    CollFound (cut_of t) n steps x q
coll_found t n steps o x q read agrees is node = go (cut_of t) read (subst (FlowAgrees t (flow_collection n steps (cut_of t))) is agrees)
  where
    go : (c : Cut) → read_at t ≡ Some c → FlowAgrees t (flow_collection n steps c) (Some x) → CollFound c n steps x q
    go c read agrees =
        let same = sym (text_read t c read) in
        let w = agrees_there (cut_text c) (flow_collection n steps c) x q (subst (λ (u : List ℕ). FlowAgrees u (flow_collection n steps c) (Some x)) same agrees) node in
        record { read = subst (λ (u : List ℕ). read_at u ≡ Some c) same read; coll = w.0; found = w.1; agrees = w.2; node = w.3 }

-- the text of the cut that is read
pub whole_text : (t whole : List ℕ) → read_at t ≡ Some (cut_of t) → whole ≡ t → whole ≡ cut_text (cut_of t)
whole_text t whole read is = is ∙ sym (text_read t (cut_of t) read)

-- ---- an edit of it

-- Segments are those of an edit at a place that lies in a text.
pub record EditFound (o : Option (List Segment)) (t : List ℕ) (p : PlacedEdit) (written : List ℕ) : Type 0 where
  pub lies : LiesIn t p
  pub is : o ≡ Some (edit_segments t p written)

-- Where the places of an edit in the text are characters' ends.
abbrev pub HasBounds : List ℕ → FlowEdit → Type 0
HasBounds t e = IsCharBoundary t (length t - length (e.old ++ e.after)) × IsCharBoundary t (length t - length e.after)

-- the place of such an edit lies in the text
pub bounds_lie : (c : Cut) (e : FlowEdit) (p : PlacedEdit) → read_at (cut_text c) ≡ Some c → HasBounds (cut_text c) e → p ≡ place_edit (length (cut_text c)) e → LiesIn (cut_text c) p
bounds_lie c e p read bounds is =
    subst (LiesIn (cut_text c)) (sym is) (record { small = text_small (cut_text c) c read; order = edit_order (cut_text c) e; start = bounds.0; end = bounds.1 })

module _ (c : Cut) (n : ℕ) (steps : List Step) (x : FlowHead) (q : Placed) (f : CollFound c n steps x q) where
  abbrev t : List ℕ
  t = cut_text c

  -- An edit that the text has as the row alone has its own: its place,
  pub edit_moved : (e own : FlowEdit) (p : PlacedEdit) → e ≡ edit_more f.agrees.after own →
      length (own.old ++ own.after) ≤ length (node_text f.agrees.at.node f.agrees.at.rest) → p ≡ place_edit (length x.text.now) own →
      moved_on x.before p ≡ place_edit (length t) e
  edit_moved e own p same within is = ap (moved_on x.before) is ∙ sym (in_text t f.coll x f.agrees e own same within)

  pub edit_lies : (e : FlowEdit) (p : PlacedEdit) → HasBounds (cut_text c) e → moved_on x.before p ≡ place_edit (length t) e → LiesIn t (moved_on x.before p)
  edit_lies e p bounds moved = bounds_lie c e (moved_on x.before p) f.read bounds moved

-- ---- a part of it

abbrev pub part_in : Step → CollPieces → EntryPieces → FlowPart
part_in s w y = record { step = s; collection = w; part = y }

-- The collection in which a path ends is found.
module _ (c : Cut) (n : ℕ) (path init : List Step) (s : Step) (x : FlowHead) (q : Placed) (last : Some (init, s) ≡ last_step path) (f : CollFound c n init x q) where
  abbrev own : CollPieces
  own = f.agrees.at.coll

  -- what is at the path, by the row alone
  pub placement_is : flow_placement n c (last_step path) ≡ option_map (part_in s f.coll) (option_map (entry_more f.agrees.after) (item_at own.close s own.items own.rest))
  placement_is = search (rules, ← last, f.found, f.coll, item_whole, f.agrees)

  abbrev pub entry_found : (y : EntryPieces) → item_at own.close s own.items own.rest ≡ Some y → EntryAt c n path
  entry_found y at = record {
    init = init;
    step = s;
    last = sym last;
    coll = f.coll;
    found = f.found;
    item = entry_more f.agrees.after y;
    at = item_whole (cut_text c) f.coll x f.agrees s ∙ ap (option_map (entry_more f.agrees.after)) at;
  }
