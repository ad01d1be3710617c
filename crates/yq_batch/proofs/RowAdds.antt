-- An entry put at the end of a mapping, whatever was put in rows before it.
use Rattle.std.proofs.Common.{◌≡◌, ℕ, zero, suc, ◌+◌, ◌-◌, ◌≤◌, Bool, cond, leb, List, [], ◌∷◌, ◌++◌, drop, take, length, Option, Some}
use Rattle.std.proofs.Common.{None, refl, sym, ap, ◌∙◌, subst, arith, append_assoc, append-nil, length-append, string_bytes}
use Rattle.std.{proofs.lemmas.Bool.le-leb, proofs.lemmas.List.append_cancel_right, proofs.lemmas.Option.{none-some, same_Some}}
use Rattle.std.{specs.Prelude.IfSome, specs.Str.IsCharBoundary}
use Rattle.yq_text.{specs.Limit.text_limit, specs.Script.{Segment, changes, new_text, splice_at}}
use Rattle.yq_core.specs.Paths.{Step}
use Rattle.yq_row_table.specs.Rows.{Cut, cut_text}
use Rattle.yq_documents.{specs.Reading.{documents, read_at}, proofs.ReadLaws.parts_read}
use Rattle.yq_places.specs.Placements.{RowsOfEntry}
use Rattle.yq_semantics.{specs.Fits.Fits, specs.Operations.{Operation, append}, specs.Rooms.room_of}
use Rattle.yq_edit_rules.{specs.Edits.or_stay, specs.EntryEdits.more_lines, specs.Layouts.layout_of, specs.RowChanges.HoldsInline}
use Rattle.yq_edit_laws.{proofs.CutLaws.text_read, specs.Carried.{carried, carry_one}}
use Rattle.yq_edit_laws.{specs.Edit.{by_reading, edit_of_segments, exchange_edit, gives}, specs.Theorems.IsFitting, proofs.ApplyLaws.fits}
use Rattle.yq_batch.{specs.OpenRows.{AreRowsStill, IsOpenRows, IsRowStill, IsRowThere}, specs.OpenRuns.AreCharEdges}
use Rattle.yq_batch.{specs.KeptBreaks.KeepsFirstBreak, specs.RowEnds.{AddsAtEnd, LeaveRoom, EndOfEntries, IsEndStill}}
use Rattle.yq_batch.proofs.RowEndLaws.{adds, after, end_after, end_breaks, lines_are, read_new, row_stays, text_upto, upto}
use Rattle.yq_batch.{proofs.RowOrder.StaysBefore, proofs.RowStills.{holds_now, row_at_front, some_between}}
use Rattle.yq_batch.{proofs.SlotEnds.{apart_from, last_alone}, proofs.SlotLaws.{front_length, front_of, places_same}}
use Rattle.yq_batch.{proofs.SlotPuts.edges_put, proofs.SlotStills.{new_text_is, old_text}, specs.declared.change.HeadChange.HeadChange}
use Rattle.yq_batch.specs.declared.slots.SlotPlace.{SlotPlace}
use Rattle.yq_batch.specs.Slots.{AreInOrder, IsPutIn, SlotView, count_of, put_or, put_text, slot_places, slot_text, text_from}
use Rattle.yq_text.specs.Exchanging as exchange

nothing : (n : ℕ) (l : List ℕ) → drop n (take n l) ≡ []
nothing zero [] = refl
nothing zero (x ∷ l) = refl
nothing (suc n) [] = refl
nothing (suc n) (x ∷ l) = nothing n l

module _ (op : Operation) (c : Cut) (m : ℕ) (slots slots2 : List SlotView) (whole : read_at (cut_text c) ≡ Some c) (o : Option EndOfEntries) (run : IsOpenRows c m o slots) (y : HeadChange) (a : AddsAtEnd op c m o y) (at was : ℕ)
    (put : IsPutIn slots slots2 y.place (string_bytes a.written) [] at was) where
  abbrev t : List ℕ
  t = cut_text c

  abbrev now : List ℕ
  now = text_from t 0 slots

  abbrev z : EndOfEntries
  z = a.end

  abbrev d : Cut
  d = run.cut

  abbrev rest : List ℕ
  rest = drop z.at t

  abbrev new : List ℕ
  new = string_bytes a.written ++ []

  abbrev own : Operation
  own = append m z.steps (Some a.key) a.value

  es : IsEndStill c d m slots z
  es = subst (λ (x : Option EndOfEntries). IfSome x (IsEndStill c d m slots)) a.known run.ends

  text : cut_text d ≡ now
  text = text_read now d run.read

  read : read_at (cut_text d) ≡ Some d
  read = ap read_at text ∙ run.read

  -- the last place
  abbrev s : SlotView
  s = put.slot

  abbrev s2 : SlotView
  s2 = put.slot2

  same_place : s2.place ≡ s.place
  same_place = put.put.same ∙ sym put.put.place_is

  apart_all : LeaveRoom (slot_places (put.front ++ (s ∷ put.back)))
  apart_all = subst (λ (ss : List SlotView). LeaveRoom (slot_places ss)) put.old_is run.apart

  no_back : put.back ≡ []
  no_back = last_alone s.place put.back (apart_from put.front s put.back apart_all) (ap (λ (x : SlotPlace). x.more) put.put.place_is ∙ a.more)

  slots_are : slots ≡ put.front ++ (s ∷ [])
  slots_are = put.old_is ∙ ap (λ (bs : List SlotView). put.front ++ (s ∷ bs)) no_back

  slots2_are : slots2 ≡ put.front ++ (s2 ∷ [])
  slots2_are = put.new_is ∙ ap (λ (bs : List SlotView). put.front ++ (s2 ∷ bs)) no_back

  starts : s.place.start ≡ z.at
  starts = ap (λ (x : SlotPlace). x.start) put.put.place_is ∙ a.start

  ends : s.place.end ≡ z.at
  ends = ap (λ (x : SlotPlace). x.end) put.put.place_is ∙ a.finish

  order : AreInOrder 0 (slot_places (put.front ++ (s ∷ []))) (length t)
  order = subst (λ (ss : List SlotView). AreInOrder 0 (slot_places ss) (length t)) slots_are run.order

  -- the bytes there
  slot_old : slot_text t s ≡ [] ++ put_text s
  slot_old = go s.new
    where
      go : (w : Option (List ℕ)) → put_or w (drop s.place.start (take s.place.end t)) ≡ put_or w []
      go None = (λ i. drop (starts i) (take (ends i) t)) ∙ nothing z.at t
      go (Some w) = refl

  slot_new : slot_text t s2 ≡ [] ++ (put_text s ++ new)
  slot_new = ap (λ (w : Option (List ℕ)). put_or w (drop s2.place.start (take s2.place.end t))) put.put.new

  abbrev before : List ℕ
  before = front_of t 0 put.front s.place.start ++ []

  rest_is : text_from t s.place.end [] ≡ rest
  rest_is = ap (λ (n : ℕ). drop n t) ends

  now_split : now ≡ before ++ (put_text s ++ rest)
  now_split = ap (text_from t 0) slots_are ∙ (old_text c s s2 [] same_place [] (put_text s) (put_text s ++ new) slot_old slot_new 0 put.front order ∙ ap (λ (l : List ℕ). before ++ (put_text s ++ l)) rest_is)

  next_split : text_from t 0 slots2 ≡ before ++ ((put_text s ++ new) ++ rest)
  next_split =
      ap (text_from t 0) slots2_are
      ∙ (new_text_is c s s2 [] same_place [] (put_text s) (put_text s ++ new) slot_old slot_new 0 put.front order ∙ ap (λ (l : List ℕ). before ++ ((put_text s ++ new) ++ l)) rest_is)

  up_is : upto z m d rest read es.here ≡ before ++ put_text s
  up_is = append_cancel_right _ _ rest (sym (text_upto z m d rest read es.here) ∙ (text ∙ (now_split ∙ sym (append_assoc before (put_text s) rest))))

  at_is : at ≡ length (upto z m d rest read es.here)
  at_is = omega (
    arith,
    ap length up_is,
    length-append before (put_text s),
    length-append (front_of t 0 put.front s.place.start) [],
    put.at_is,
    put.put.at_is,
    a.start,
    starts,
    front_length t 0 put.front s [] order,
  )

  none_gone : was ≡ 0
  none_gone = omega (arith, put.put.was_is, a.start, a.finish, ap (λ (w : Option (List ℕ)). count_of w (y.place.end - y.place.start)) put.put.new)

  -- how long the text is then
  pub add_size : length (text_from t 0 slots2) + was ≡ length now + length new
  add_size =
      omega (
        arith,
        none_gone,
        ap length next_split,
        ap length now_split,
        length-append before ((put_text s ++ new) ++ rest),
        length-append (put_text s ++ new) rest,
        length-append (put_text s) new,
        length-append before (put_text s ++ rest),
        length-append (put_text s) rest,
      )

  order2 : AreInOrder 0 (slot_places slots2) (length t)
  order2 =
      subst (λ (ss : List SlotView). AreInOrder 0 (slot_places ss) (length t)) (sym slots2_are)
      (subst (λ (ps : List SlotPlace). AreInOrder 0 ps (length t)) (sym (places_same put.front s s2 [] same_place)) order)

  apart2 : LeaveRoom (slot_places slots2)
  apart2 =
      subst (λ (ss : List SlotView). LeaveRoom (slot_places ss)) (sym put.new_is)
      (subst LeaveRoom (sym (places_same put.front s s2 put.back same_place)) apart_all)

  edges2 : AreCharEdges t slots2
  edges2 =
      subst (AreCharEdges t) (sym put.new_is)
      (edges_put t put.front s s2 put.back (subst (AreCharEdges t) put.old_is run.edges) (subst (IsCharBoundary t) (sym (ap (λ (x : SlotPlace). x.start) put.put.same ∙ a.start)) es.known.edge)
      (subst (IsCharBoundary t) (sym (ap (λ (x : SlotPlace). x.end) put.put.same ∙ a.finish)) es.known.edge))

  -- what it is in the text as it is now
  abbrev ss : List Segment
  ss = (adds z m d rest read es.here a.key a.value).segments

  lines_new : more_lines (layout_of m d) (Some a.key) a.value z.column (10 ∷ []) ≡ new
  lines_new = lines_are z m d rest read es.here a.key a.value c a.plain es.breaks ∙ (sym a.lines ∙ sym (append-nil (string_bytes a.written)))

  new_is : new_text ss ≡ text_from t 0 slots2
  new_is =
      (adds z m d rest read es.here a.key a.value).puts.new_is
      ∙ ((λ i. up_is i ++ (lines_new i ++ rest))
      ∙ (append_assoc before (put_text s) (new ++ rest) ∙ (ap (λ (l : List ℕ). before ++ l) (sym (append_assoc (put_text s) new rest)) ∙ sym next_split)))

  changes_are : changes ss ≡ splice_at at (drop y.place.start (take y.place.end t)) new
  changes_are =
      (adds z m d rest read es.here a.key a.value).puts.changes_are
      ∙ (λ i. splice_at (sym at_is i) (sym ((λ j. drop (a.start j) (take (a.finish j) t)) ∙ nothing z.at t) i) (lines_new i))

  comes : carried own now ≡ edit_of_segments ss
  comes = ap (by_reading (carry_one own)) run.read ∙ ap (λ (x : Option (List Segment)). edit_of_segments (or_stay d x)) (adds z m d rest read es.here a.key a.value).edited

  module _ (fitting : IsFitting own now) (small : length (text_from t 0 slots2) ≤ text_limit) where
    pub add_comes : carried own now ≡ gives (text_from t 0 slots2) (splice_at at (drop y.place.start (take y.place.end t)) new)
    add_comes =
        let cs = splice_at at (drop y.place.start (take y.place.end t)) new in
        comes
        ∙ ((λ i. exchange_edit (cond (leb (length (new_is i)) text_limit) (exchange.gives (new_is i) (changes_are i)) exchange.too_large))
        ∙ ap (λ (b : Bool). exchange_edit (cond b (exchange.gives (text_from t 0 slots2) cs) exchange.too_large)) (le-leb (length (text_from t 0 slots2)) text_limit small))

    fit : Fits (room_of (cut_text d)) own (documents d)
    fit =
        let same : fitting.read.parts ≡ d = same_Some _ _ (sym (parts_read now fitting.before fitting.read).0 ∙ run.read) in
        subst (λ (x : Cut). Fits (room_of (cut_text x)) own (documents x)) same (fits own now a.valid fitting)

    low : length (new_text ss) ≤ text_limit
    low = omega (arith, small, ap length new_is)

    abbrev next : Cut
    next = after z m d rest read es.here a.key a.value a.plain a.valid fit low

    read_new_text : read_at (new_text ss) ≡ Some next
    read_new_text = read_new z m d rest read es.here a.key a.value a.plain a.valid fit low

    text_after : cut_text next ≡ text_from t 0 slots2
    text_after = text_read (new_text ss) next read_new_text ∙ new_is

    read_next : read_at (text_from t 0 slots2) ≡ Some next
    read_next = ap read_at (sym new_is) ∙ read_new_text

    read_after : read_at (cut_text next) ≡ Some next
    read_after = ap read_at text_after ∙ read_next

    own_after : IsRowStill c next m s2 (text_from t s2.place.end [])
    own_after no_text = absurd (none-some _ (sym no_text ∙ put.put.new))

    -- the rows before it
    stays : (mid : List ℕ) (u : Step) (us : List Step) (e : RowsOfEntry) → HoldsInline e → (k : IsRowThere e m (u ∷ us) d (mid ++ (put_text s ++ rest))) → StaysBefore k.now m (u ∷ us) next
    stays mid u us e holds k =
        row_stays z m d rest read es.here a.key a.value a.plain a.valid fit low u us k.now k.found
        (some_between m u us d k.now (mid ++ (put_text s ++ rest)) (length rest) read k.found (holds_now e k.now k.row k.line holds) k.back
        (omega (arith, length-append mid (put_text s ++ rest), length-append (put_text s) rest)))

    stills : (p : ℕ) (fs : List SlotView) → AreInOrder p (slot_places (fs ++ (s ∷ []))) (length t) → AreRowsStill c d m (fs ++ (s ∷ [])) → AreRowsStill c next m (fs ++ (s2 ∷ []))
    stills p [] h known = (own_after, tt)
    stills p (f ∷ fs) h known =
        let mid : List ℕ = front_of t f.place.end fs s.place.start ++ [] in
        let old : text_from t f.place.end (fs ++ (s ∷ [])) ≡ mid ++ (put_text s ++ rest) =
        old_text c s s2 [] same_place [] (put_text s) (put_text s ++ new) slot_old slot_new f.place.end fs h.3 ∙ ap (λ (l : List ℕ). mid ++ (put_text s ++ l)) rest_is in
        let made : text_from t f.place.end (fs ++ (s2 ∷ [])) ≡ mid ++ ((put_text s ++ new) ++ rest) =
        new_text_is c s s2 [] same_place [] (put_text s) (put_text s ++ new) slot_old slot_new f.place.end fs h.3 ∙ ap (λ (l : List ℕ). mid ++ ((put_text s ++ new) ++ l)) rest_is in (
          subst (IsRowStill c next m f) (sym made)
              (row_at_front c d next m read read_after before (put_text s ++ rest) ((put_text s ++ new) ++ rest) (text ∙ now_split) (text_after ∙ next_split) f mid (subst (IsRowStill c d m f) old known.0)
              (λ u us e found holds here k. stays mid u us e holds k)),
          stills f.place.end fs h.3 known.1,
        )

    end_still : IsEndStill c next m slots2 z
    end_still = record {
      known = es.known;
      front = put.front;
      last = s2;
      slots_are = slots2_are;
      start = ap (λ (x : SlotPlace). x.start) put.put.same ∙ a.start;
      end = ap (λ (x : SlotPlace). x.end) put.put.same ∙ a.finish;
      keeps = subst (KeepsFirstBreak t) (sym (ap slot_places slots2_are ∙ places_same put.front s s2 [] same_place))
          (subst (λ (ss : List SlotView). KeepsFirstBreak t (slot_places ss)) slots_are es.keeps);
      breaks = end_breaks z m d rest read es.here a.key a.value a.plain a.valid fit low ∙ es.breaks;
      here = end_after z m d rest read es.here a.key a.value a.plain a.valid fit low;
    }

    pub add_goes_on : IsOpenRows c m o slots2
    add_goes_on = record {
      order = order2;
      apart = apart2;
      edges = edges2;
      cut = next;
      read = read_next;
      still = subst (AreRowsStill c next m) (sym slots2_are) (stills 0 put.front order (subst (AreRowsStill c d m) slots_are run.still));
      ends = subst (λ (x : Option EndOfEntries). IfSome x (IsEndStill c next m slots2)) (sym a.known) end_still;
    }
