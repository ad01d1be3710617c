-- A value put at a place of a head, whatever was put at others.
use Rattle.std.proofs.Common.{◌≡◌, ℕ, ◌+◌, ◌-◌, ◌≤◌, true, false, List, [], ◌∷◌, ◌++◌, drop, take, length, Option, Some, None, refl, sym}
use Rattle.std.{proofs.Common.{ap, ◌∙◌, subst, arith, append_assoc, length-append}, proofs.Math.Seq.{drop-append_seam, take-append_seam}}
use Rattle.std.{proofs.lemmas.Bool.false≢true, proofs.lemmas.Option.{none-some, same_Some}, specs.Str.IsCharBoundary}
use Rattle.yq_text.{specs.Limit.text_limit, specs.Script.splice_at}
use Rattle.yq_core.{specs.Paths.Step, specs.Tree.Node, specs.Answers.◌>>=◌, proofs.Bools.bind_some, specs.Collections.CollPieces}
use Rattle.yq_core.{specs.Entries.item_at, specs.Nodes.{node_text, without_anchor}, proofs.NodesWrittenLaws.node_then, specs.Trees.tree_of}
use Rattle.yq_flow_edits.{specs.FlowEdits.FlowEdit, specs.FlowPlaces.PlacedEdit, specs.Valued.IsValueTree}
use Rattle.yq_row_table.specs.Rows.{Cut, cut_text}
use Rattle.yq_documents.specs.Reading.{documents, read_at}
use Rattle.yq_places.{specs.FlowNodes.flow_collection, specs.NodesAt.node_in, specs.Placements.{FlowPart, flow_placement, last_step}}
use Rattle.yq_semantics.{specs.Fits.Fits, specs.Operations.replace, specs.Rooms.room_of}
use Rattle.yq_edit_rules.specs.Replacing.{keeps_scalar}
use Rattle.yq_edit_laws.{specs.PartPuts.{IsEditPlace, IsPartOf, IsPlaceOf, put_edit}, proofs.CutLaws.text_read}
use Rattle.yq_edit_laws.{proofs.EarlierPuts.{coll_before_put, part_before_put}, proofs.FlowPartNodes.part_node}
use Rattle.yq_edit_laws.proofs.FlowPutLaws.{following_end, head_after, next, following_part, replaced_reads}
use Rattle.yq_edit_laws.{proofs.FlowPlacements.{EntryAt, entry_found}, specs.Carried.carried, specs.Edit.gives, specs.Theorems.IsFitting}
use Rattle.yq_batch.{specs.Runs.EndsInCollection, proofs.PutComes.{kept_comes, made_text, new_is, put_comes, segments_come}}
use Rattle.yq_batch.{proofs.RunEdits.{edit_size, fits_now}, specs.declared.slots.SlotPlace.SlotPlace}
use Rattle.yq_batch.specs.Slots.{AreInOrder, IsPutIn, SlotView, count_of, slot_places, put_or, slot_text, text_from}
use Rattle.yq_batch.specs.OpenRuns.{AreCharEdges, AreStill, IsOpenRun, IsStill}
use Rattle.yq_batch.proofs.SlotLaws.{front_length, front_of, order_at, places_same}
use Rattle.yq_batch.proofs.SlotStills.{Leaves, new_text_is, old_text, room_next, stills}

-- what is known of one place
pub still_at : (c cut : Cut) (n : ℕ) (stem : List Step) (fs : List SlotView) (s : SlotView) (bs : List SlotView) → AreStill c cut n stem (fs ++ (s ∷ bs)) → IsStill c cut n stem s (text_from (cut_text c) s.place.end bs)
still_at c cut n stem [] s bs h = h.0
still_at c cut n stem (a ∷ fs) s bs h = still_at c cut n stem fs s bs h.1

-- one more place at which something was put
pub edges_put : (t : List ℕ) (fs : List SlotView) (s s2 : SlotView) (bs : List SlotView) → AreCharEdges t (fs ++ (s ∷ bs)) → IsCharBoundary t s2.place.start → IsCharBoundary t s2.place.end → AreCharEdges t (fs ++ (s2 ∷ bs))
edges_put t [] s s2 bs h start finish = (λ w e. (start, finish), h.1)
edges_put t (a ∷ fs) s s2 bs h start finish = (h.0, edges_put t fs s s2 bs h.1 start finish)

-- nothing was put at a content before
pub none_put : (o : Option (List ℕ)) → ((w : List ℕ) → o ≡ Some w → false ≡ true) → o ≡ None
none_put None h = refl
none_put (Some w) h = absurd (false≢true (h w refl))

module _ (c : Cut) (n : ℕ) (stem path : List Step) (v : Node) (slots slots2 : List SlotView) (whole : read_at (cut_text c) ≡ Some c) (run : IsOpenRun c n stem slots)
    (ends : EndsInCollection stem path) (z : FlowPart) (placement : flow_placement n c (last_step path) ≡ Some z) (place : PlacedEdit)
    (placed : IsPlaceOf (cut_text c) v z place) (lead written : List ℕ) (at was : ℕ)
    (put : IsPutIn slots slots2 (record { start = place.start; end = place.end; more = false }) lead written at was) where
  abbrev t : List ℕ
  t = cut_text c

  abbrev start : ℕ
  start = place.start

  abbrev finish : ℕ
  finish = place.end

  abbrev p : SlotPlace
  p = record { start = start; end = finish; more = false }

  abbrev now : List ℕ
  now = text_from t 0 slots

  -- the part fs it was read
  abbrev b : EntryAt c n path
  b = (entry_found c n path z placement).0

  abbrev e : FlowEdit
  e = put_edit v (record { step = b.step; collection = b.coll; part = b.item })

  there : IsEditPlace t e place
  there = subst (λ (y : FlowPart). IsPlaceOf t v y place) (sym (entry_found c n path z placement).1) placed

  start_is : start ≡ length t - length (e.old ++ e.after)
  start_is = ap (λ (q : PlacedEdit). q.start) there.place_is

  finish_is : finish ≡ length t - length e.after
  finish_is = ap (λ (q : PlacedEdit). q.end) there.place_is

  lead_is : place.lead ≡ e.lead
  lead_is = ap (λ (q : PlacedEdit). q.lead) there.place_is

  size : length t ≡ length there.before + (length e.old + length e.after)
  size = edit_size t e place there

  front_size : start ≡ length there.before
  front_size = omega (arith, start_is, size, length-append e.old e.after)

  whole_split : t ≡ (there.before ++ e.old) ++ e.after
  whole_split = there.text ∙ sym (append_assoc there.before e.old e.after)

  finish_size : finish ≡ length (there.before ++ e.old)
  finish_size = omega (arith, finish_is, size, length-append there.before e.old)

  following_is : drop finish t ≡ e.after
  following_is = (λ i. drop (finish_size i) (whole_split i)) ∙ drop-append_seam (there.before ++ e.old) e.after

  old_is : drop start (take finish t) ≡ e.old
  old_is =
      let upto : take finish t ≡ there.before ++ e.old = (λ i. take (finish_size i) (whole_split i)) ∙ take-append_seam (there.before ++ e.old) e.after in
      (λ i. drop (front_size i) (upto i)) ∙ drop-append_seam there.before e.old

  -- its place
  abbrev front : List SlotView
  front = put.front

  abbrev s : SlotView
  s = put.slot

  abbrev s2 : SlotView
  s2 = put.slot2

  abbrev back : List SlotView
  back = put.back

  abbrev rest : List ℕ
  rest = text_from t s.place.end back

  s_place : s.place ≡ p
  s_place = put.put.place_is

  same_place : s2.place ≡ s.place
  same_place = put.put.same ∙ sym s_place

  none : s.new ≡ None
  none = none_put s.new (λ w e. (put.put.again w e).0)

  order : AreInOrder 0 (slot_places (front ++ (s ∷ back))) (length t)
  order = subst (λ (ss : List SlotView). AreInOrder 0 (slot_places ss) (length t)) put.old_is run.order

  still : AreStill c run.cut n stem (front ++ (s ∷ back))
  still = subst (AreStill c run.cut n stem) put.old_is run.still

  abbrev left : List Step
  left = ends.0

  steps_are : b.init ≡ stem ++ left
  steps_are = ap (λ (y : List Step × Step). y.0) (same_Some _ _ (sym b.last ∙ ends.1.1))

  first : IsPartOf c n (stem ++ left) b.step b.item
  first = ap (λ (o : Option CollPieces). o >>= λ w. item_at w.close b.step w.items w.rest) (ap (λ (ss : List Step). flow_collection n ss c) (sym steps_are) ∙ b.found) ∙ b.at

  content_is : length (e.old ++ e.after) ≡ length (node_text (without_anchor b.item.node) b.item.rest)
  content_is = ap length (sym (node_then (without_anchor b.item.node) b.item.rest))

  -- and fs it is now
  stays : IsPartOf run.cut n (stem ++ left) b.step (record b.item { rest = rest })
  stays =
      (still_at c run.cut n stem front s back still).part none (ap (λ (q : SlotPlace). q.more) s_place) left b.step b.item first (sym following_is ∙ ap (λ (q : SlotPlace). drop q.end t) (sym s_place))
      (omega (arith, ap (λ (q : SlotPlace). q.start) s_place, start_is, content_is, size, length-append e.old e.after))

  abbrev a : EntryAt run.cut n path
  a =
      let w = bind_some (flow_collection n (stem ++ left) run.cut) stays in
      record { init = stem ++ left; step = b.step; last = b.last ∙ ap (λ (ss : List Step). Some (ss, b.step)) steps_are; coll = w.0; found = w.1; item = record b.item { rest = rest }; at = w.2 }

  text : cut_text run.cut ≡ now
  text = text_read now run.cut run.read

  read : read_at (cut_text run.cut) ≡ Some run.cut
  read = ap read_at text ∙ run.read

  same_kept : keeps_scalar (node_in n path c) v ≡ keeps_scalar (Some (tree_of b.item.node)) v
  same_kept = ap (λ (o : Option Node). keeps_scalar o v) (part_node c n path b whole)

  slot_old : slot_text t s ≡ [] ++ e.old
  slot_old = (λ i. put_or (none i) (drop (s_place i).start (take (s_place i).end t))) ∙ old_is

  slot_new : slot_text t s2 ≡ [] ++ (lead ++ written)
  slot_new = ap (λ (o : Option (List ℕ)). put_or o (drop s2.place.start (take s2.place.end t))) put.put.new ∙ ap (λ (o : Option (List ℕ)). put_or o [] ++ (lead ++ written)) none

  count_new : was ≡ length e.old
  count_new = omega (
    arith,
    put.put.was_is,
    ap (λ (o : Option (List ℕ)). count_of o (finish - start)) put.put.new,
    ap (λ (o : Option (List ℕ)). count_of o (finish - start)) none,
    start_is,
    finish_is,
    size,
    length-append e.old e.after,
  )

  abbrev before_text : List ℕ
  before_text = front_of t 0 front s.place.start ++ []

  at_is : at ≡ length before_text
  at_is = omega (
    arith,
    put.at_is,
    put.put.at_is,
    ap (λ (o : Option (List ℕ)). length (put_or o [])) none,
    front_length t 0 front s back order,
    length-append (front_of t 0 front s.place.start) [],
    ap (λ (q : SlotPlace). q.start) s_place,
  )

  old_split : now ≡ before_text ++ (e.old ++ rest)
  old_split =
      ap (text_from t 0) put.old_is
      ∙ old_text_of front order
    where
      old_text_of : (fs : List SlotView) → AreInOrder 0 (slot_places (fs ++ (s ∷ back))) (length t) → text_from t 0 (fs ++ (s ∷ back)) ≡ (front_of t 0 fs s.place.start ++ []) ++ (e.old ++ rest)
      old_text_of fs h = old_text c s s2 back same_place [] e.old (lead ++ written) slot_old slot_new 0 fs h

  new_text_at : text_from t 0 slots2 ≡ before_text ++ ((lead ++ written) ++ rest)
  new_text_at = ap (text_from t 0) put.new_is ∙ made front order
    where
      made : (fs : List SlotView) → AreInOrder 0 (slot_places (fs ++ (s ∷ back))) (length t) → text_from t 0 (fs ++ (s2 ∷ back)) ≡ (front_of t 0 fs s.place.start ++ []) ++ ((lead ++ written) ++ rest)
      made fs h = new_text_is c s s2 back same_place [] e.old (lead ++ written) slot_old slot_new 0 fs h

  -- how long the text is then
  pub new_size : length (text_from t 0 slots2) + was ≡ length now + length (lead ++ written)
  new_size =
      omega (arith, ap length new_text_at, ap length old_split, count_new, length-append before_text ((lead ++ written) ++ rest), length-append (lead ++ written) rest, length-append before_text (e.old ++ rest), length-append e.old rest)

  order2 : AreInOrder 0 (slot_places slots2) (length t)
  order2 = subst (λ (ss : List SlotView). AreInOrder 0 (slot_places ss) (length t)) (sym put.new_is) (subst (λ (ps : List SlotPlace). AreInOrder 0 ps (length t)) (sym (places_same front s s2 back same_place)) order)

  edges2 : AreCharEdges t slots2
  edges2 =
      subst (AreCharEdges t) (sym put.new_is)
      (edges_put t front s s2 back (subst (AreCharEdges t) put.old_is run.edges)
      (subst (λ (q : SlotPlace). IsCharBoundary t q.start) (sym put.put.same) there.lies.start)
      (subst (λ (q : SlotPlace). IsCharBoundary t q.end) (sym put.put.same) there.lies.end))

  -- what is known of its own place after it: nothing
  own_after : (k : Cut) → IsStill c k n stem s2 rest
  own_after k = record {
    part = λ none_now. absurd (none-some _ (sym none_now ∙ put.put.new));
    ends = λ more. absurd (false≢true (sym (ap (λ (q : SlotPlace). q.more) put.put.same) ∙ more));
  }

  -- an equal scalar
  pub kept_there : keeps_scalar (node_in n path c) v ≡ true → carried (replace n path v) now ≡ gives now []
  kept_there kept = subst (λ (u : List ℕ). carried (replace n path v) u ≡ gives u []) text (kept_comes run.cut n path v read a (sym same_kept ∙ kept))

  -- another value
  module _ (other : keeps_scalar (node_in n path c) v ≡ false) (lead_same : lead ≡ place.lead) (is : written ≡ (put_edit v z).written)
      (value : IsValueTree v) (fitting : IsFitting (replace n path v) now) (small : length (text_from t 0 slots2) ≤ text_limit) where
    written_is : written ≡ e.written
    written_is = is ∙ ap (λ (y : FlowPart). (put_edit v y).written) (sym (entry_found c n path z placement).1)

    abbrev e2 : FlowEdit
    e2 = put_edit v (record { step = a.step; collection = a.coll; part = a.item })

    split : cut_text run.cut ≡ before_text ++ (e2.old ++ e2.after)
    split = text ∙ old_split

    new_is_made : (lead ++ written) ++ rest ≡ (e2.lead ++ e2.written) ++ e2.after
    new_is_made = λ i. ((lead_same ∙ lead_is) i ++ written_is i) ++ rest

    made_is : made_text before_text e2 ≡ text_from t 0 slots2
    made_is = append_assoc before_text (e2.lead ++ e2.written) e2.after ∙ (ap (λ (l : List ℕ). before_text ++ l) (sym new_is_made) ∙ sym new_text_at)

    pub put_there : carried (replace n path v) now ≡ gives (text_from t 0 slots2) (splice_at at (drop start (take finish t)) (lead ++ written))
    put_there =
        ap (carried (replace n path v)) (sym text)
        ∙ (put_comes run.cut n path v read a (sym same_kept ∙ other)
        ∙ (segments_come (cut_text run.cut) before_text e2 split (omega (arith, small, ap length made_is))
        ∙ λ i. gives (made_is i) (splice_at (sym at_is i) (sym old_is i) (sym (lead_same ∙ lead_is) i ++ sym written_is i))))

    fit : Fits (room_of (cut_text run.cut)) (replace n path v) (documents run.cut)
    fit = fits_now (replace n path v) now run.cut value fitting run.read

    abbrev following : Cut
    following = next run.cut n path v read a stem left refl run.leads

    leaves : Leaves run.cut following n stem (e2.old ++ e2.after) ((e2.lead ++ e2.written) ++ e2.after) (length rest) 0
    leaves = record {
      parts_after = λ ss r y part less begins. following_part run.cut n path v read a stem left refl run.leads ss r y part less begins;
      following_ends = λ ss w found fits. following_end run.cut n path v read a stem left refl run.leads ss w found (omega (arith, fits));
      parts_before = λ ss r y part long begins. part_before_put run.cut n path v read a stem left refl run.leads value fit ss r y part long begins;
      colls_before = λ ss w found long. coll_before_put run.cut n path v read a stem left refl run.leads value fit ss w found long;
    }

    pub put_goes_on : IsOpenRun c n stem slots2
    put_goes_on = record {
      order = order2;
      edges = edges2;
      cut = following;
      read = ap read_at (sym (new_is (cut_text run.cut) before_text e2 split ∙ made_is)) ∙ replaced_reads run.cut n path v read a value fit (omega (arith, small, ap length (new_is (cut_text run.cut) before_text e2 split ∙ made_is)));
      leads = head_after run.cut n path v read a stem left refl run.leads;
      still =
          subst (AreStill c following n stem) (sym put.new_is)
          (stills c run.cut following n stem (e2.old ++ e2.after) ((e2.lead ++ e2.written) ++ e2.after) (length rest) 0 leaves s s2 back same_place [] e.old (lead ++ written) slot_old slot_new refl (sym new_is_made) (own_after following)
          (room_next c run.cut following n stem (e2.old ++ e2.after) ((e2.lead ++ e2.written) ++ e2.after) (length rest) 0 leaves s.place back
          (order_at 0 (length t) front s back order).2 (order_at 0 (length t) front s back order).3 (omega arith)) 0 front order still);
    }

  -- the bytes of an equal scalar are put there again
  module _ (no_lead : lead ≡ []) (bytes : written ≡ drop start (take finish t)) where
    same_bytes : lead ++ written ≡ e.old
    same_bytes = (λ i. no_lead i ++ bytes i) ∙ old_is

    pub same_text : text_from t 0 slots2 ≡ now
    same_text = new_text_at ∙ (ap (λ (l : List ℕ). before_text ++ (l ++ rest)) same_bytes ∙ sym old_split)

    kept_stills : (q : ℕ) (fs : List SlotView) → AreInOrder q (slot_places (fs ++ (s ∷ back))) (length t) → AreStill c run.cut n stem (fs ++ (s ∷ back)) → AreStill c run.cut n stem (fs ++ (s2 ∷ back))
    kept_stills q [] h known = (subst (λ (r : SlotPlace). IsStill c run.cut n stem s2 (text_from t r.end back)) (sym same_place) (own_after run.cut), known.1)
    kept_stills q (f ∷ fs) h known =
        let was = old_text c s s2 back same_place [] e.old (lead ++ written) slot_old slot_new f.place.end fs h.3 in
        let is = new_text_is c s s2 back same_place [] e.old (lead ++ written) slot_old slot_new f.place.end fs h.3 in
        (subst (IsStill c run.cut n stem f) (was ∙ (ap (λ (l : List ℕ). (front_of t f.place.end fs s.place.start ++ []) ++ (l ++ rest)) (sym same_bytes) ∙ sym is)) known.0, kept_stills f.place.end fs h.3 known.1)

    pub kept_goes_on : IsOpenRun c n stem slots2
    kept_goes_on = record {
      order = order2;
      edges = edges2;
      cut = run.cut;
      read = ap read_at same_text ∙ run.read;
      leads = run.leads;
      still = subst (AreStill c run.cut n stem) (sym put.new_is) (kept_stills 0 front order still);
    }
