-- A value put in a row, whatever was put in others.
use Rattle.std.proofs.Common.{◌≡◌, ℕ, suc, ◌+◌, ◌-◌, ◌≤◌, Bool, true, false, cond, leb, List, [], ◌∷◌, ◌++◌, drop, take, length, Option}
use Rattle.std.proofs.Common.{Some, None, refl, sym, ap, ◌∙◌, subst, arith, append_assoc, append-nil, length-append}
use Rattle.std.{proofs.Math.Seq.{drop-append_seam, take-append_seam}, proofs.lemmas.Bool.le-leb, proofs.lemmas.List.append_cancel_right}
use Rattle.std.{proofs.lemmas.Option.{none-some, same_Some}, specs.Prelude.IfSome, specs.Str.IsCharBoundary}
use Rattle.yq_text.{specs.Limit.text_limit, specs.Script.{Segment, changes, keep, new_text, splice_at}, proofs.ScriptLaws.kept_changes}
use Rattle.yq_core.{specs.Paths.Step, specs.Tree.Node, specs.declared.style.Place.TheVariants.Block as InBlock}
use Rattle.yq_outline.{specs.Outline.anchored, specs.Lines.{content_anchor, head_of}}
use Rattle.yq_row_table.{specs.Rows.{Cut, Row, cut_text}, specs.View.slices}
use Rattle.yq_documents.{specs.Reading.{documents, read_at}, proofs.ReadLaws.parts_read}
use Rattle.yq_places.{specs.FirstBreak.first_break, specs.NodesAt.node_in, specs.Placements.{RowsOfEntry, held, rows_of_entry}}
use Rattle.yq_semantics.{specs.Fits.Fits, specs.Operations.replace, specs.Rooms.room_of}
use Rattle.yq_edit_rules.{specs.BlockReading.is_filled, specs.Edits.{op_edits, or_stay}, specs.Operands.HasOperand}
use Rattle.yq_edit_rules.{specs.Replacing.keeps_scalar, specs.RowChanges.{ChangesRow, HoldsInline}, specs.RowStays.StaysInRows}
use Rattle.yq_edit_rules.specs.WrittenValues.{value_text}
use Rattle.yq_edit_laws.{proofs.CutLaws.{cut_read, text_read}, specs.Carried.{carried, carry_one}}
use Rattle.yq_edit_laws.{specs.Edit.{by_reading, edit_of_segments, exchange_edit, gives}, specs.Theorems.IsFitting, proofs.ApplyLaws.fits}
use Rattle.yq_batch.specs.OpenRows.{AreRowsStill, IsHeadAt, IsOpenRows, IsRowStill, IsRowThere, head_back, head_front}
use Rattle.yq_batch.{specs.OpenRuns.AreCharEdges, specs.RowRuns.PutsText}
use Rattle.yq_batch.proofs.RowPutLaws.{head, node_there, value_changes, value_comes, value_stays, value_text_is}
use Rattle.yq_batch.proofs.RowStills.{holds_now, rows_around, some_between}
use Rattle.yq_batch.{proofs.SlotLaws.{front_length, front_of, order_at, places_same}, proofs.RowEndLaws.end_stays}
use Rattle.yq_batch.{proofs.RowsBeforeOffset.split_front, proofs.SlotEnds.{apart_from, following_last, more_left}}
use Rattle.yq_batch.{specs.RowEnds.{LeaveRoom, EndOfEntries, EndsHere, IsBeforeEnd, IsEndStill}, proofs.SlotPuts.{edges_put, none_put}}
use Rattle.yq_batch.{proofs.SlotStills.{new_text_is, old_text}, specs.declared.slots.SlotPlace.SlotPlace}
use Rattle.yq_batch.{specs.KeptBreaks.{IsUnbroken, KeepsFirstBreak}, proofs.KeptBreakLaws.{put_keeps, value_unbroken}}
use Rattle.yq_batch.specs.Slots.{AreInOrder, IsPutIn, SlotView, count_of, put_or, slot_places, slot_text, text_from}
use Rattle.yq_text.specs.Exchanging as exchange

-- what is known of one place
still_at : (c d : Cut) (m : ℕ) (fs : List SlotView) (s : SlotView) (bs : List SlotView) → AreRowsStill c d m (fs ++ (s ∷ bs)) → IsRowStill c d m s (text_from (cut_text c) s.place.end bs)
still_at c d m [] s bs h = h.0
still_at c d m (a ∷ fs) s bs h = still_at c d m fs s bs h.1

module _ (c : Cut) (m : ℕ) (u : Step) (us : List Step) (v : Node) (slots slots2 : List SlotView) (whole : read_at (cut_text c) ≡ Some c) (o : Option EndOfEntries) (run : IsOpenRows c m o slots) (e : RowsOfEntry)
    (found : rows_of_entry m (u ∷ us) c ≡ Some e) (holds : HoldsInline e) (plain : is_filled v ≡ false) (p : SlotPlace) (place : IsHeadAt e p) (before_end : IfSome o (IsBeforeEnd e p)) (one : p.more ≡ false)
    (lead written : List ℕ) (no_lead : lead ≡ []) (at was : ℕ) (put : IsPutIn slots slots2 p lead written at was) where
  abbrev t : List ℕ
  t = cut_text c

  abbrev now : List ℕ
  now = text_from t 0 slots

  abbrev old : List ℕ
  old = (held e).head

  -- its place
  abbrev s : SlotView
  s = put.slot

  abbrev s2 : SlotView
  s2 = put.slot2

  abbrev rest : List ℕ
  rest = text_from t s.place.end put.back

  same_place : s2.place ≡ s.place
  same_place = put.put.same ∙ sym put.put.place_is

  none : s.new ≡ None
  none = none_put s.new (λ w some. sym one ∙ (put.put.again w some).0)

  order : AreInOrder 0 (slot_places (put.front ++ (s ∷ put.back))) (length t)
  order = subst (λ (ss : List SlotView). AreInOrder 0 (slot_places ss) (length t)) put.old_is run.order

  still : AreRowsStill c run.cut m (put.front ++ (s ∷ put.back))
  still = subst (AreRowsStill c run.cut m) put.old_is run.still

  here : IsHeadAt e s.place
  here = subst (IsHeadAt e) (sym put.put.place_is) place

  -- its row in the text as it is now
  abbrev there : IsRowThere e m (u ∷ us) run.cut rest
  there = still_at c run.cut m put.front s put.back still none u us e found holds here

  abbrev k : RowsOfEntry
  k = there.now

  holds_k : HoldsInline k
  holds_k = holds_now e k there.row there.line holds

  text : cut_text run.cut ≡ now
  text = text_read now run.cut run.read

  read : read_at (cut_text run.cut) ≡ Some run.cut
  read = ap read_at text ∙ run.read

  same_head : (held k).head ≡ old
  same_head = ap (λ (r : Row). (slices r).head) there.row

  same_node : node_in m (u ∷ us) run.cut ≡ node_in m (u ∷ us) c
  same_node =
      let x = head m u us c e whole found holds in
      node_there m u us run.cut k read there.found holds_k x.0 (ap (λ (r : Row). head_of r.content) there.row ∙ x.1)
      ∙ (ap (λ (r : Row). Some (anchored (content_anchor r.content) x.0)) there.row ∙ sym (node_there m u us c e whole found holds x.0 x.1))

  abbrev itself : StaysInRows k m (u ∷ us) run.cut
  itself = record { start = k.start; front = k.front; found = there.found; size = refl }

  comes : (ss : List Segment) → op_edits (replace m (u ∷ us) v) run.cut ≡ Some ss → carried (replace m (u ∷ us) v) now ≡ edit_of_segments ss
  comes ss edited = ap (by_reading (carry_one (replace m (u ∷ us) v))) run.read ∙ ap (λ (o : Option (List Segment)). edit_of_segments (or_stay run.cut o)) edited

  -- the bytes of its place
  split : t ≡ (head_front e ++ old) ++ head_back e
  split = value_text_is m u us v c e whole found holds plain ∙ sym (append_assoc (head_front e) old (head_back e))

  old_is : drop p.start (take p.end t) ≡ old
  old_is =
      let size : p.end ≡ length (head_front e ++ old) = omega (arith, place.start, place.end, length-append (head_front e) old) in
      let upto : take p.end t ≡ head_front e ++ old = (λ i. take (size i) (split i)) ∙ take-append_seam (head_front e ++ old) (head_back e) in
      (λ i. drop (place.start i) (upto i)) ∙ drop-append_seam (head_front e) old

  slot_old : slot_text t s ≡ [] ++ old
  slot_old = (λ i. put_or (none i) (drop (put.put.place_is i).start (take (put.put.place_is i).end t))) ∙ old_is

  slot_new : slot_text t s2 ≡ [] ++ written
  slot_new = (λ i. put_or (put.put.new i) (drop s2.place.start (take s2.place.end t))) ∙ (λ i. put_or (none i) [] ++ (no_lead i ++ written))

  count_new : was ≡ length old
  count_new = omega (
    arith,
    put.put.was_is,
    ap (λ (o : Option (List ℕ)). count_of o (p.end - p.start)) put.put.new,
    ap (λ (o : Option (List ℕ)). count_of o (p.end - p.start)) none,
    place.end,
  )

  -- the text before it
  abbrev before : List ℕ
  before = front_of t 0 put.front s.place.start ++ []

  at_is : at ≡ length before
  at_is = omega (
    arith,
    put.at_is,
    put.put.at_is,
    ap (λ (o : Option (List ℕ)). length (put_or o [])) none,
    front_length t 0 put.front s put.back order,
    length-append (front_of t 0 put.front s.place.start) [],
    ap (λ (x : SlotPlace). x.start) put.put.place_is,
  )

  now_split : now ≡ before ++ (old ++ rest)
  now_split = ap (text_from t 0) put.old_is ∙ old_text c s s2 put.back same_place [] old written slot_old slot_new 0 put.front order

  next_split : text_from t 0 slots2 ≡ before ++ (written ++ rest)
  next_split = ap (text_from t 0) put.new_is ∙ new_text_is c s s2 put.back same_place [] old written slot_old slot_new 0 put.front order

  -- how long the text is then
  pub row_size : length (text_from t 0 slots2) + was ≡ length now + length (lead ++ written)
  row_size =
      omega (
        arith,
        ap length next_split,
        ap length now_split,
        count_new,
        length-append before (written ++ rest),
        length-append written rest,
        length-append before (old ++ rest),
        length-append old rest,
        ap (λ (l : List ℕ). length (l ++ written)) no_lead,
      )

  order2 : AreInOrder 0 (slot_places slots2) (length t)
  order2 =
      subst (λ (ss : List SlotView). AreInOrder 0 (slot_places ss) (length t)) (sym put.new_is)
      (subst (λ (ps : List SlotPlace). AreInOrder 0 ps (length t)) (sym (places_same put.front s s2 put.back same_place)) order)

  apart2 : LeaveRoom (slot_places slots2)
  apart2 =
      subst (λ (ss : List SlotView). LeaveRoom (slot_places ss)) (sym put.new_is)
      (subst LeaveRoom (sym (places_same put.front s s2 put.back same_place)) (subst (λ (ss : List SlotView). LeaveRoom (slot_places ss)) put.old_is run.apart))

  -- the end of a mapping, in whichever cut it is there
  abbrev EndThere : Cut → EndOfEntries → Type 0
  EndThere d z = EndsHere z m d (drop z.at t)

  last_after : (z : EndOfEntries) → IsBeforeEnd e p z → (k : IsEndStill c run.cut m slots z) → (hs : List SlotView) × (put.back ≡ hs ++ (k.last ∷ []))
  last_after z less k =
      following_last put.front s put.back k.front k.last (sym put.old_is ∙ k.slots_are)
      (λ same. absurd (omega (arith, less.0, k.end, ap (λ (x : SlotView). x.place.end) same, ap (λ (x : SlotPlace). x.end) put.put.place_is)))

  end_in : (d : Cut) (z : EndOfEntries) → IsBeforeEnd e p z → IsEndStill c run.cut m slots z → EndThere d z →
      first_break (cut_text d) ≡ first_break t → IsEndStill c d m slots2 z
  end_in d z less k there breaks =
      let h = last_after z less k in
      record {
        known = k.known;
        front = put.front ++ (s2 ∷ h.0);
        last = k.last;
        slots_are = put.new_is ∙ (ap (λ (bs : List SlotView). put.front ++ (s2 ∷ bs)) h.1 ∙ sym (append_assoc put.front (s2 ∷ h.0) (k.last ∷ [])));
        start = k.start;
        end = k.end;
        keeps = subst (KeepsFirstBreak t)
            (ap slot_places put.old_is ∙ sym (ap slot_places put.new_is ∙ places_same put.front s s2 put.back same_place)) k.keeps;
        breaks = breaks;
        here = there;
      }

  ends_in : (d : Cut) (x : Option EndOfEntries) → IfSome x (IsBeforeEnd e p) → IfSome x (IsEndStill c run.cut m slots) →
      ((z : EndOfEntries) → IsBeforeEnd e p z → IsEndStill c run.cut m slots z → EndThere d z × (first_break (cut_text d) ≡ first_break t)) →
      IfSome x (IsEndStill c d m slots2)
  ends_in d None less k at = tt
  ends_in d (Some z) less k at = let x = at z less k in end_in d z less k x.0 x.1

  module _ (starts : IsCharBoundary t p.start) (ends : IsCharBoundary t p.end) where
    edges2 : AreCharEdges t slots2
    edges2 =
        subst (AreCharEdges t) (sym put.new_is)
        (edges_put t put.front s s2 put.back (subst (AreCharEdges t) put.old_is run.edges) (subst (λ (x : SlotPlace). IsCharBoundary t x.start) (sym put.put.same) starts)
        (subst (λ (x : SlotPlace). IsCharBoundary t x.end) (sym put.put.same) ends))

    -- what is known of its own place after it: nothing
    own_after : (d : Cut) → IsRowStill c d m s2 rest
    own_after d no_text = absurd (none-some _ (sym no_text ∙ put.put.new))

    -- an equal scalar
    pub row_kept : keeps_scalar (node_in m (u ∷ us) c) v ≡ true → carried (replace m (u ∷ us) v) now ≡ gives now []
    row_kept kept =
        let d : List ℕ = cut_text run.cut in
        let edited = value_stays m u us v run.cut k read there.found holds_k plain run.cut read itself (ap (λ (o : Option Node). keeps_scalar o v) same_node ∙ kept) in
        comes (keep d ∷ []) edited
        ∙ ((λ i. exchange_edit (cond (leb (length (append-nil d i)) text_limit) (exchange.gives (append-nil d i) (kept_changes (keep d ∷ []) (tt, tt) i)) exchange.too_large))
        ∙ (ap (λ (b : Bool). exchange_edit (cond b (exchange.gives d []) exchange.too_large)) (le-leb (length d) text_limit (cut_read d run.cut read).size) ∙ ap (λ (l : List ℕ). gives l []) text))

    -- its bytes are put there again
    module _ (bytes : written ≡ drop p.start (take p.end t)) where
      pub row_same : text_from t 0 slots2 ≡ now
      row_same = next_split ∙ (ap (λ (l : List ℕ). before ++ (l ++ rest)) (bytes ∙ old_is) ∙ sym now_split)

      kept_stills : (x : ℕ) (fs : List SlotView) → AreInOrder x (slot_places (fs ++ (s ∷ put.back))) (length t) → AreRowsStill c run.cut m (fs ++ (s ∷ put.back)) → AreRowsStill c run.cut m (fs ++ (s2 ∷ put.back))
      kept_stills x [] h known = (subst (λ (r : SlotPlace). IsRowStill c run.cut m s2 (text_from t r.end put.back)) (sym same_place) (own_after run.cut), known.1)
      kept_stills x (f ∷ fs) h known =
          let was = old_text c s s2 put.back same_place [] old written slot_old slot_new f.place.end fs h.3 in
          let is = new_text_is c s s2 put.back same_place [] old written slot_old slot_new f.place.end fs h.3 in
          (subst (IsRowStill c run.cut m f) (was ∙ (ap (λ (l : List ℕ). (front_of t f.place.end fs s.place.start ++ []) ++ (l ++ rest)) (sym (bytes ∙ old_is)) ∙ sym is)) known.0, kept_stills f.place.end fs h.3 known.1)

      pub row_kept_on : IsOpenRows c m o slots2
      row_kept_on = record {
        order = order2;
        apart = apart2;
        edges = edges2;
        cut = run.cut;
        read = ap read_at row_same ∙ run.read;
        still = subst (AreRowsStill c run.cut m) (sym put.new_is) (kept_stills 0 put.front order still);
        ends = ends_in run.cut o before_end run.ends (λ z less k. (k.here, k.breaks));
      }

    -- another value
    module _ (other : keeps_scalar (node_in m (u ∷ us) c) v ≡ false) (is : written ≡ value_text InBlock old v) (operand : HasOperand (replace m (u ∷ us) v))
        (fitting : IsFitting (replace m (u ∷ us) v) now) (small : length (text_from t 0 slots2) ≤ text_limit) where
      abbrev x : PutsText (replace m (u ∷ us) v) run.cut k (held k).head (value_text InBlock (held k).head v) (head_back k)
      x = value_comes m u us v run.cut k read there.found holds_k plain run.cut read itself (ap (λ (o : Option Node). keeps_scalar o v) same_node ∙ other)

      front_is : x.front ≡ before
      front_is =
          append_cancel_right x.front before (old ++ rest)
          ((λ i. x.front ++ (sym same_head i ++ sym there.back i)) ∙ (sym x.puts.old_is ∙ (x.whole ∙ (text ∙ now_split))))

      new_is : new_text x.segments ≡ text_from t 0 slots2
      new_is = x.puts.new_is ∙ ((λ i. front_is i ++ ((ap (λ (l : List ℕ). value_text InBlock l v) same_head ∙ sym is) i ++ there.back i)) ∙ sym next_split)

      changes_are : changes x.segments ≡ splice_at at (drop p.start (take p.end t)) (lead ++ written)
      changes_are = x.puts.changes_are ∙ (λ i. splice_at ((ap length front_is ∙ sym at_is) i) ((same_head ∙ sym old_is) i) (sym no_lead i ++ (ap (λ (l : List ℕ). value_text InBlock l v) same_head ∙ sym is) i))

      pub row_comes : carried (replace m (u ∷ us) v) now ≡ gives (text_from t 0 slots2) (splice_at at (drop p.start (take p.end t)) (lead ++ written))
      row_comes =
          let cs = splice_at at (drop p.start (take p.end t)) (lead ++ written) in
          comes x.segments x.edited
          ∙ ((λ i. exchange_edit (cond (leb (length (new_is i)) text_limit) (exchange.gives (new_is i) (changes_are i)) exchange.too_large))
          ∙ ap (λ (b : Bool). exchange_edit (cond b (exchange.gives (text_from t 0 slots2) cs) exchange.too_large)) (le-leb (length (text_from t 0 slots2)) text_limit small))

      fit : Fits (room_of (cut_text run.cut)) (replace m (u ∷ us) v) (documents run.cut)
      fit =
          let same : fitting.read.parts ≡ run.cut = same_Some _ _ (sym (parts_read now fitting.before fitting.read).0 ∙ run.read) in
          subst (λ (d : Cut). Fits (room_of (cut_text d)) (replace m (u ∷ us) v) (documents d)) same (fits (replace m (u ∷ us) v) now operand fitting)

      abbrev y : ChangesRow m run.cut k x.segments
      y =
          value_changes m u us v run.cut k read there.found holds_k plain run.cut read itself (ap (λ (o : Option Node). keeps_scalar o v) same_node ∙ other) operand fit
          (omega (arith, small, ap length new_is))

      abbrev next : Cut
      next = Rattle.yq_batch.proofs.RowStills.next c run.cut m whole read u us e found holds k there.size x.segments y

      text_next : cut_text next ≡ text_from t 0 slots2
      text_next = text_read (new_text x.segments) next y.read ∙ new_is

      read_next : read_at (text_from t 0 slots2) ≡ Some next
      read_next = ap read_at (sym new_is) ∙ y.read

      end_there : (z : EndOfEntries) → IsBeforeEnd e p z → IsEndStill c run.cut m slots z → EndThere next z
      end_there z less known =
          let h = last_after z less known in
          let left : suc (length (drop z.at t)) ≤ length rest =
          subst (λ (bs : List SlotView). suc (length (drop z.at t)) ≤ length (text_from t s.place.end bs)) (sym h.1)
          (subst (λ (n : ℕ). suc (length (drop n t)) ≤ length (text_from t s.place.end (h.0 ++ (known.last ∷ [])))) known.end
          (more_left t s.place h.0 known.last
          (subst (λ (bs : List SlotView). LeaveRoom (s.place ∷ slot_places bs)) h.1 (apart_from put.front s put.back (subst (λ (ss : List SlotView). LeaveRoom (slot_places ss)) put.old_is run.apart)))
          (subst (λ (bs : List SlotView). AreInOrder s.place.end (slot_places bs) (length t)) h.1 (order_at 0 (length t) put.front s put.back order).3))) in
          let all : (before ++ old) ++ rest ≡ known.here.text ++ (10 ∷ drop z.at t) = append_assoc before old rest ∙ (sym (text ∙ now_split) ∙ known.here.ended) in
          let g = split_front (before ++ old) rest known.here.text (10 ∷ drop z.at t) all (omega (arith, left, ap length all, length-append (before ++ old) rest, length-append known.here.text (10 ∷ drop z.at t))) in
          end_stays z m run.cut (drop z.at t) read known.here u us k there.found (omega (arith, less.1, there.size))
          (some_between m u us run.cut k rest (length (drop z.at t)) read there.found holds_k there.back (omega (arith, left)))
          x.segments y (ap read_at text_next ∙ read_next) (before ++ (written ++ g.0))
          (text_next
          ∙ (next_split
          ∙ (ap (λ (l : List ℕ). before ++ (written ++ l)) g.2
          ∙ (ap (λ (l : List ℕ). before ++ l) (sym (append_assoc written g.0 (10 ∷ drop z.at t))) ∙ sym (append_assoc before (written ++ g.0) (10 ∷ drop z.at t))))))

      breaks_there : (z : EndOfEntries) → IsEndStill c run.cut m slots z → first_break (cut_text next) ≡ first_break t
      breaks_there z known =
          ap first_break (text_next ∙ next_split)
          ∙ put_keeps t put.front s put.back old written order (subst (λ (ss : List SlotView). KeepsFirstBreak t (slot_places ss)) put.old_is known.keeps)
          (subst IsUnbroken (sym is) (value_unbroken old v operand plain)) (ap first_break (sym (text ∙ now_split)) ∙ known.breaks)

      pub row_goes_on : IsOpenRows c m o slots2
      row_goes_on = record {
        order = order2;
        apart = apart2;
        edges = edges2;
        cut = next;
        read = read_next;
        still =
            subst (AreRowsStill c next m) (sym put.new_is)
            (rows_around c run.cut m whole read u us e found holds k there.size x.segments y (ap read_at text_next ∙ read_next) before (old ++ rest) (written ++ rest)
            (text ∙ now_split) (text_next ∙ next_split) s s2 put.back same_place old written slot_old slot_new refl refl (own_after next) here 0 put.front order still);
        ends = ends_in next o before_end run.ends (λ z less known. (end_there z less known, breaks_there z known));
      }
