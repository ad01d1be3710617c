-- One more item or entry put into a collection of a head, whatever was put at other places.
use Rattle.std.proofs.Common.{◌≡◌, ℕ, ◌+◌, ◌-◌, ◌≤◌, Bool, true, false, cond, List, [], ◌∷◌, ◌++◌, drop, take, length, Option, Some, None}
use Rattle.std.{proofs.Common.{refl, sym, ap, ◌∙◌, subst, arith, append_assoc, append-nil, length-append}, proofs.Math.Seq.drop-append_seam}
use Rattle.std.{proofs.lemmas.List.{drop_all, length-take-le}, proofs.lemmas.Bool.false≢true, proofs.lemmas.Option.none-some}
use Rattle.std.specs.Str.{IsCharBoundary}
use Rattle.yq_text.{specs.Limit.text_limit, specs.Script.splice_at}
use Rattle.yq_core.{specs.Paths.Step, specs.Tree.Node, specs.Collections.CollPieces}
use Rattle.yq_flow_edits.{specs.FlowEdits.{FlowEdit, is_none}, specs.FlowPlaces.PlacedEdit}
use Rattle.yq_row_table.specs.Rows.{Cut, cut_text}
use Rattle.yq_documents.specs.Reading.{documents, read_at}
use Rattle.yq_places.specs.FlowNodes.{flow_collection}
use Rattle.yq_semantics.{specs.Fits.Fits, specs.Operations.append, specs.Rooms.room_of}
use Rattle.yq_edit_rules.{specs.FlowParts.{flow_segments, takes_key}, specs.Operands.HasOperand}
use Rattle.yq_edit_laws.{specs.PartPuts.{IsEditPlace, more_edit}, proofs.CutLaws.text_read}
use Rattle.yq_edit_laws.proofs.EarlierPuts.{coll_before_more, part_before_more}
use Rattle.yq_edit_laws.{proofs.FlowAppendLaws.{appended_reads, following_end, head_after, next, following_part}, specs.Carried.carried}
use Rattle.yq_edit_laws.{specs.Edit.{edit_of_segments, gives}, specs.Theorems.IsFitting}
use Rattle.yq_batch.{proofs.PutComes.{made_text, new_is, segments_come, more_comes}, proofs.RunEdits.{edit_size, fits_now}}
use Rattle.yq_batch.specs.declared.slots.SlotPlace.{SlotPlace}
use Rattle.yq_batch.specs.Slots.{AreInOrder, IsPutIn, SlotView, count_of, slot_places, put_or, put_text, slot_text, text_from}
use Rattle.yq_batch.specs.OpenRuns.{AreCharEdges, AreStill, EndsBefore, IsOpenRun, IsStill}
use Rattle.yq_batch.{proofs.SlotLaws.{front_length, front_of, order_at, places_same}, proofs.SlotPuts.{edges_put, still_at}}
use Rattle.yq_batch.proofs.SlotStills.{Leaves, new_text_is, old_text, room_more, stills}

-- a collection without items had nothing put into it, if something leads to what is put there
none_before : (o : Option (List ℕ)) (b : Bool) (lead : List ℕ) → lead ≡ cond b [] (44 ∷ (32 ∷ [])) → ((w : List ℕ) → o ≡ Some w → lead ≡ [] → ⊥) → b ≡ true → o ≡ None
none_before None b lead is again none = refl
none_before (Some w) b lead is again none = absurd (again w refl (is ∙ ap (λ (k : Bool). cond k [] (44 ∷ (32 ∷ []))) none))

module _ (c : Cut) (n : ℕ) (stem left : List Step) (key : Option (List ℕ)) (v : Node) (slots slots2 : List SlotView) (run : IsOpenRun c n stem slots)
    (w : CollPieces) (found : flow_collection n (stem ++ left) c ≡ Some w) (takes : takes_key w.close key ≡ true) (place : PlacedEdit) (there : IsEditPlace (cut_text c) (more_edit key v w) place)
    (written : List ℕ) (is : written ≡ (more_edit key v w).written) (at was : ℕ)
    (put : IsPutIn slots slots2 (record { start = place.start; end = place.end; more = true }) place.lead written at was) where
  abbrev path : List Step
  path = stem ++ left

  abbrev t : List ℕ
  t = cut_text c

  abbrev now : List ℕ
  now = text_from t 0 slots

  abbrev start : ℕ
  start = place.start

  abbrev finish : ℕ
  finish = place.end

  abbrev p : SlotPlace
  p = record { start = start; end = finish; more = true }

  abbrev e : FlowEdit
  e = more_edit key v w

  abbrev lead : List ℕ
  lead = place.lead

  start_is : start ≡ length t - length e.after
  start_is = ap (λ (q : PlacedEdit). q.start) there.place_is

  finish_is : finish ≡ length t - length e.after
  finish_is = ap (λ (q : PlacedEdit). q.end) there.place_is

  lead_is : lead ≡ e.lead
  lead_is = ap (λ (q : PlacedEdit). q.lead) there.place_is

  size : length t ≡ length there.before + (0 + length e.after)
  size = edit_size t e place there

  finish_size : finish ≡ length there.before
  finish_size = omega (arith, finish_is, size)

  following_is : drop finish t ≡ e.after
  following_is = (λ i. drop (finish_size i) (there.text i)) ∙ drop-append_seam there.before e.after

  -- its place
  abbrev front : List SlotView
  front = put.front

  abbrev s : SlotView
  s = put.slot

  abbrev s2 : SlotView
  s2 = put.slot2

  abbrev back : List SlotView
  back = put.back

  abbrev rest : List ℕ
  rest = text_from t s.place.end back

  -- what was put there before
  abbrev before : List ℕ
  before = put_text s

  s_place : s.place ≡ p
  s_place = put.put.place_is

  same_place : s2.place ≡ s.place
  same_place = put.put.same ∙ sym s_place

  order : AreInOrder 0 (slot_places (front ++ (s ∷ back))) (length t)
  order = subst (λ (ss : List SlotView). AreInOrder 0 (slot_places ss) (length t)) put.old_is run.order

  still : AreStill c run.cut n stem (front ++ (s ∷ back))
  still = subst (AreStill c run.cut n stem) put.old_is run.still

  none_new : is_none w.items ≡ true → s.new ≡ None
  none_new = none_before s.new (is_none w.items) lead lead_is (λ u e. (put.put.again u e).1)

  -- the collection fs it is now
  ends : EndsBefore w run.cut n path rest
  ends = (still_at c run.cut n stem front s back still).ends (ap (λ (q : SlotPlace). q.more) s_place) left w found (sym following_is ∙ ap (λ (q : SlotPlace). drop q.end t) (sym s_place)) none_new

  abbrev z : CollPieces
  z = ends.coll

  text : cut_text run.cut ≡ now
  text = text_read now run.cut run.read

  read : read_at (cut_text run.cut) ≡ Some run.cut
  read = ap read_at text ∙ run.read

  takes_now : takes_key z.close key ≡ true
  takes_now = ap (λ (k : ℕ). takes_key k key) ends.close ∙ takes

  abbrev e2 : FlowEdit
  e2 = more_edit key v z

  comes : carried (append n path key v) now ≡ edit_of_segments (flow_segments (cut_text run.cut) e2)
  comes = more_comes now run.cut n path key v z run.read ends.is takes_now

  nothing_old : drop start (take finish t) ≡ []
  nothing_old = drop_all start (take finish t) (omega (arith, start_is, finish_is, length-take-le finish t (omega (arith, finish_is))))

  own_text : (o : Option (List ℕ)) → put_or o (drop start (take finish t)) ≡ put_or o []
  own_text None = nothing_old
  own_text (Some u) = refl

  slot_old : slot_text t s ≡ before ++ []
  slot_old = ap (λ (q : SlotPlace). put_or s.new (drop q.start (take q.end t))) s_place ∙ (own_text s.new ∙ sym (append-nil before))

  slot_new : slot_text t s2 ≡ before ++ (lead ++ written)
  slot_new = ap (λ (o : Option (List ℕ)). put_or o (drop s2.place.start (take s2.place.end t))) put.put.new

  abbrev before_text : List ℕ
  before_text = front_of t 0 front s.place.start ++ before

  at_is : at ≡ length before_text
  at_is = omega (arith, put.at_is, put.put.at_is, front_length t 0 front s back order, length-append (front_of t 0 front s.place.start) before, ap (λ (q : SlotPlace). q.start) s_place)

  old_split : now ≡ before_text ++ ([] ++ rest)
  old_split = ap (text_from t 0) put.old_is ∙ old_text c s s2 back same_place before [] (lead ++ written) slot_old slot_new 0 front order

  new_text_at : text_from t 0 slots2 ≡ before_text ++ ((lead ++ written) ++ rest)
  new_text_at = ap (text_from t 0) put.new_is ∙ new_text_is c s s2 back same_place before [] (lead ++ written) slot_old slot_new 0 front order

  -- how long the text is then
  none_gone : was ≡ 0
  none_gone = go s2.new s.new put.put.was_is
    where
      nothing : finish - start ≡ 0
      nothing = omega (arith, start_is, finish_is)

      count : (o : Option (List ℕ)) → count_of o (finish - start) ≡ 0
      count None = refl
      count (Some u) = nothing

      go : (o o2 : Option (List ℕ)) → count_of o (finish - start) ≡ was + count_of o2 (finish - start) → was ≡ 0
      go o o2 h = omega (arith, h, count o, count o2)

  pub new_size : length (text_from t 0 slots2) + was ≡ length now + length (lead ++ written)
  new_size = omega (arith, none_gone, ap length new_text_at, ap length old_split, length-append before_text ((lead ++ written) ++ rest), length-append (lead ++ written) rest, length-append before_text ([] ++ rest))

  split : cut_text run.cut ≡ before_text ++ (e2.old ++ e2.after)
  split = text ∙ (old_split ∙ ap (λ (l : List ℕ). before_text ++ l) (sym ends.after))

  new_is_made : (lead ++ written) ++ rest ≡ (e2.lead ++ e2.written) ++ e2.after
  new_is_made = λ i. ((lead_is ∙ ap (λ (b : Bool). cond b [] (44 ∷ (32 ∷ []))) (sym ends.none)) i ++ is i) ++ sym ends.after i

  made_is : made_text before_text e2 ≡ text_from t 0 slots2
  made_is = append_assoc before_text (e2.lead ++ e2.written) e2.after ∙ (ap (λ (l : List ℕ). before_text ++ l) (sym new_is_made) ∙ sym new_text_at)

  module _ (small : length (text_from t 0 slots2) ≤ text_limit) where
    pub more_put_there : carried (append n path key v) now ≡ gives (text_from t 0 slots2) (splice_at at (drop start (take finish t)) (lead ++ written))
    more_put_there =
        comes
        ∙ (segments_come (cut_text run.cut) before_text e2 split (omega (arith, small, ap length made_is))
        ∙ λ i. gives (made_is i) (splice_at (sym at_is i) (sym nothing_old i) (sym (lead_is ∙ ap (λ (b : Bool). cond b [] (44 ∷ (32 ∷ []))) (sym ends.none)) i ++ sym is i)))

    module _ (operand : HasOperand (append n path key v)) (fitting : IsFitting (append n path key v) now) where
      fit : Fits (room_of (cut_text run.cut)) (append n path key v) (documents run.cut)
      fit = fits_now (append n path key v) now run.cut operand fitting run.read

      abbrev following : Cut
      following = next run.cut n path key v z read ends.is stem left refl run.leads

      leaves : Leaves run.cut following n stem (e2.old ++ e2.after) ((e2.lead ++ e2.written) ++ e2.after) (length rest) 1
      leaves = record {
        parts_after = λ ss r y part less begins. following_part run.cut n path key v z read ends.is stem left refl run.leads ss r y part (omega (arith, less, ap length ends.after)) (omega (arith, begins, ap length ends.after));
        following_ends = λ ss u there fits. following_end run.cut n path key v z read ends.is stem left refl run.leads ss u there (omega (arith, fits, ap length ends.after), λ none. omega (arith, fits, ap length ends.after));
        parts_before = λ ss r y part long begins. part_before_more run.cut n path key v z read ends.is stem left refl run.leads operand.0 operand.1 takes_now fit ss r y part long begins;
        colls_before = λ ss u there long. coll_before_more run.cut n path key v z read ends.is stem left refl run.leads operand.0 operand.1 takes_now fit ss u there long;
      }

      -- what is known of its own place after it: the end of a collection that had some
      own_after : IsStill c following n stem s2 rest
      own_after = record {
        part = λ none_now. absurd (none-some _ (sym none_now ∙ put.put.new));
        ends = λ more ss u there after none.
            let some : is_none u.items ≡ false = some_of (is_none u.items) (λ no. none-some _ (sym (none no) ∙ put.put.new)) in
            let d = (still_at c run.cut n stem front s back still).ends (ap (λ (q : SlotPlace). q.more) s_place) ss u there (after ∙ ap (λ (q : SlotPlace). drop q.end t) same_place) (λ no. absurd (false≢true (sym some ∙ no))) in
            let f = following_end run.cut n path key v z read ends.is stem left refl run.leads ss d.coll d.is (omega (arith, ap length d.after, ap length ends.after), λ no. absurd (false≢true (sym (d.none ∙ some) ∙ no))) in
            record { coll = f.0; is = f.1; close = f.2.close ∙ d.close; none = f.2.none ∙ d.none; after = f.2.after ∙ d.after };
      }
        where
          some_of : (b : Bool) → (b ≡ true → ⊥) → b ≡ false
          some_of true h = absurd (h refl)
          some_of false h = refl

      pub more_goes_on : IsOpenRun c n stem slots2
      more_goes_on = record {
        order = subst (λ (ss : List SlotView). AreInOrder 0 (slot_places ss) (length t)) (sym put.new_is) (subst (λ (ps : List SlotPlace). AreInOrder 0 ps (length t)) (sym (places_same front s s2 back same_place)) order);
        edges =
            subst (AreCharEdges t) (sym put.new_is)
            (edges_put t front s s2 back (subst (AreCharEdges t) put.old_is run.edges)
            (subst (λ (q : SlotPlace). IsCharBoundary t q.start) (sym put.put.same) there.lies.start)
            (subst (λ (q : SlotPlace). IsCharBoundary t q.end) (sym put.put.same) there.lies.end));
        cut = following;
        read = ap read_at (sym (new_is (cut_text run.cut) before_text e2 split ∙ made_is))
            ∙ appended_reads run.cut n path key v z read ends.is operand.0 operand.1 takes_now fit
            (omega (arith, small, ap length (new_is (cut_text run.cut) before_text e2 split ∙ made_is)));
        leads = head_after run.cut n path key v z read ends.is stem left refl run.leads;
        still =
            subst (AreStill c following n stem) (sym put.new_is)
            (stills c run.cut following n stem (e2.old ++ e2.after) ((e2.lead ++ e2.written) ++ e2.after) (length rest) 1 leaves s s2 back same_place before [] (lead ++ written) slot_old slot_new ends.after (sym new_is_made) own_after
            (room_more c run.cut following n stem (e2.old ++ e2.after) ((e2.lead ++ e2.written) ++ e2.after) (length rest) 1 leaves s.place back
            (ap (λ (q : SlotPlace). q.more) s_place) (order_at 0 (length t) front s back order).2 (order_at 0 (length t) front s back order).3
            (omega arith) (omega arith)) 0 front order still);
      }
