-- What is known of places of a head stays known after a change at one of them.
use Rattle.std.proofs.Common.{◌≡◌, ◌⊎◌, inl, inr, ℕ, ◌+◌, ◌-◌, ◌<◌, ◌≤◌, true, false, List, [], ◌∷◌, ◌++◌, drop, take, length, Option, Some}
use Rattle.std.{proofs.Common.{None, sym, ap, ◌∙◌, subst, arith, append_assoc, length-append}, specs.Prelude.⊤}
use Rattle.std.{proofs.lemmas.Bool.false≢true, proofs.lemmas.List.{append_cancel_right, length-drop}}
use Rattle.yq_core.{specs.Paths.Step, specs.Collections.CollPieces, specs.Entries.EntryPieces}
use Rattle.yq_core.{specs.Nodes.{node_text, without_anchor, Items, none, item}, proofs.NodesWrittenLaws.{node_then, sep_append}}
use Rattle.yq_flow_edits.specs.FlowEdits.{after_appended, after_last}
use Rattle.yq_row_table.specs.Rows.{Cut, cut_text}
use Rattle.yq_places.specs.FlowNodes.{flow_collection}
use Rattle.yq_edit_laws.specs.PartPuts.{EndsAsIn, IsCollBefore, IsPartBefore, IsPartOf}
use Rattle.yq_batch.specs.declared.slots.SlotPlace.{SlotPlace}
use Rattle.yq_batch.specs.Slots.{AreInOrder, ComesFirst, IsBeforeFirst, SlotView, slot_places, put_or, slot_text, text_from}
use Rattle.yq_batch.specs.OpenRuns.{AreStill, IsStill}
use Rattle.yq_batch.proofs.SlotLaws.{apart, between_length, front_of, order_within, places_same, split_at}

-- What a change in a head leaves: parts and ends of collections in the last bytes, and those before the change, which come before another text then.
pub record Leaves (cut next : Cut) (n : ℕ) (stem : List Step) (gone made : List ℕ) (last apart : ℕ) : Type 0 where
  pub parts_after : (ss : List Step) (r : Step) (z : EntryPieces) → IsPartOf cut n (stem ++ ss) r z → length z.rest < last → length (node_text (without_anchor z.node) z.rest) ≤ last → IsPartOf next n (stem ++ ss) r z
  pub following_ends : (ss : List Step) (z : CollPieces) → flow_collection n (stem ++ ss) cut ≡ Some z → length (after_appended z) + apart ≤ last → EndsAsIn z next n (stem ++ ss)
  pub parts_before : (ss : List Step) (r : Step) (z : EntryPieces) → IsPartOf cut n (stem ++ ss) r z → length gone ≤ length z.rest →
      length gone < length (node_text (without_anchor z.node) z.rest) → IsPartBefore next n (stem ++ ss) r z gone made
  pub colls_before : (ss : List Step) (z : CollPieces) → flow_collection n (stem ++ ss) cut ≡ Some z → length gone < length (after_appended z) → IsCollBefore next n (stem ++ ss) z gone made

-- what comes after the last item or entry, before another text
last_then : (k : ℕ) (gap : List ℕ) (is : Items) (rest more : List ℕ) → after_last k gap is (rest ++ more) ≡ after_last k gap is rest ++ more
last_then k gap none rest more = sym (append_assoc gap (k ∷ rest) more)
last_then k gap (item key n sep none) rest more = sep_append sep (k ∷ rest) more
last_then k gap (item key n sep (item key2 n2 sep2 is)) rest more = last_then k gap (item key2 n2 sep2 is) rest more

-- the length of a content before another text
content_length : (y : EntryPieces) (l : List ℕ) (n size : ℕ) → length y.rest ≡ n → length (node_text (without_anchor y.node) y.rest) ≡ size + n → length (node_text (without_anchor y.node) l) ≡ size + length l
content_length y l n size rest all =
    omega (
      arith,
      rest,
      all,
      ap length (node_then (without_anchor y.node) y.rest),
      ap length (node_then (without_anchor y.node) l),
      length-append (node_text (without_anchor y.node) []) y.rest,
      length-append (node_text (without_anchor y.node) []) l,
    )

-- ---- the text around a place at which something else is

module _ (c : Cut) (s s2 : SlotView) (bs : List SlotView) (same : s2.place ≡ s.place) (front old new : List ℕ) (old_is : slot_text (cut_text c) s ≡ front ++ old) (new_is : slot_text (cut_text c) s2 ≡ front ++ new) where
  abbrev text : List ℕ
  text = cut_text c

  abbrev after : List ℕ
  after = text_from text s.place.end bs

  order_same : (p : ℕ) (fs : List SlotView) → AreInOrder p (slot_places (fs ++ (s ∷ bs))) (length text) → AreInOrder p (slot_places (fs ++ (s2 ∷ bs))) (length text)
  order_same p fs = subst (λ (ps : List SlotPlace). AreInOrder p ps (length text)) (sym (places_same fs s s2 bs same))

  pub old_text : (p : ℕ) (fs : List SlotView) → AreInOrder p (slot_places (fs ++ (s ∷ bs))) (length text) → text_from text p (fs ++ (s ∷ bs)) ≡ (front_of text p fs s.place.start ++ front) ++ (old ++ after)
  old_text p fs order =
      split_at text p fs s bs order
      ∙ (ap (λ (l : List ℕ). front_of text p fs s.place.start ++ (l ++ after)) old_is
      ∙ (ap (λ (l : List ℕ). front_of text p fs s.place.start ++ l) (append_assoc front old after) ∙ sym (append_assoc (front_of text p fs s.place.start) front (old ++ after))))

  pub new_text_is : (p : ℕ) (fs : List SlotView) → AreInOrder p (slot_places (fs ++ (s ∷ bs))) (length text) → text_from text p (fs ++ (s2 ∷ bs)) ≡ (front_of text p fs s.place.start ++ front) ++ (new ++ after)
  new_text_is p fs order =
      split_at text p fs s2 bs (order_same p fs order)
      ∙ (ap (λ (q : SlotPlace). front_of text p fs q.start ++ (slot_text text s2 ++ text_from text q.end bs)) same
      ∙ (ap (λ (l : List ℕ). front_of text p fs s.place.start ++ (l ++ after)) new_is
      ∙ (ap (λ (l : List ℕ). front_of text p fs s.place.start ++ l) (append_assoc front new after) ∙ sym (append_assoc (front_of text p fs s.place.start) front (new ++ after)))))

module _ (c cut next : Cut) (n : ℕ) (stem : List Step) (gone made : List ℕ) (last apart_by : ℕ) (leaves : Leaves cut next n stem gone made last apart_by) where
  abbrev t : List ℕ
  t = cut_text c

  abbrev size_of : SlotView → ℕ
  size_of s = s.place.end - s.place.start

  content_size : (s : SlotView) (y : EntryPieces) (l : List ℕ) → s.place.start ≤ s.place.end → s.place.end ≤ length t → y.rest ≡ drop s.place.end t → length (node_text (without_anchor y.node) y.rest) ≡ length t - s.place.start →
      length (node_text (without_anchor y.node) l) ≡ size_of s + length l
  content_size s y l order within rest size = content_length y l (length t - s.place.end) (size_of s) (ap length rest ∙ length-drop s.place.end t) (omega (arith, size, order, within))

  -- one after the change
  still_after : (s : SlotView) (rest : List ℕ) → IsStill c cut n stem s rest → s.place.start ≤ s.place.end → s.place.end ≤ length t →
      (s.place.more ≡ false → s.new ≡ None → size_of s + length rest < last) → length rest + apart_by ≤ last → IsStill c next n stem s rest
  still_after s rest h order within room small = record {
    part = λ no_text one left r y there is size.
        let content = content_size s y rest order within is size in
        let less = room one no_text in
        leaves.parts_after left r (record y { rest = rest }) (h.part no_text one left r y there is size) (omega (arith, less)) (omega (arith, less, content));
    ends = λ more left w found is no_text.
        let z = h.ends more left w found is no_text in
        let f = leaves.following_ends left z.coll z.is (omega (arith, small, ap length z.after)) in
        record { coll = f.0; is = f.1; close = f.2.close ∙ z.close; none = f.2.none ∙ z.none; after = f.2.after ∙ z.after };
  }

  -- one before the change
  still_before : (s : SlotView) (mid : List ℕ) → IsStill c cut n stem s (mid ++ gone) → s.place.start ≤ s.place.end → s.place.end ≤ length t →
      (0 < length mid) ⊎ ((s.place.more ≡ false) × (s.place.start < s.place.end)) → IsStill c next n stem s (mid ++ made)
  still_before s mid h order within some = record {
    part = λ no_text one left r y there is size.
        let content = content_size s y (mid ++ gone) order within is size in
        let long : length gone < length (node_text (without_anchor y.node) (mid ++ gone)) = go some content in
        let b = leaves.parts_before left r (record y { rest = mid ++ gone }) (h.part no_text one left r y there is size) (omega (arith, length-append mid gone)) long in
        subst (λ (m : List ℕ). IsPartOf next n (stem ++ left) r (record y { rest = m ++ made })) (append_cancel_right b.0 mid gone (sym b.1)) b.2;
    ends = λ more left w found is no_text.
        let z = h.ends more left w found is no_text in
        let b = leaves.colls_before left z.coll z.is (omega (arith, ap length z.after, length-append mid gone, own some more)) in
        let own : after_last z.coll.close z.coll.gap z.coll.items b.0 ≡ mid =
        append_cancel_right _ mid gone (sym (last_then z.coll.close z.coll.gap z.coll.items b.0 gone) ∙ (ap (after_last z.coll.close z.coll.gap z.coll.items) (sym b.1) ∙ z.after)) in
        record {
          coll = record z.coll { rest = b.0 ++ made };
          is = b.2;
          close = z.close;
          none = z.none;
          after = last_then z.coll.close z.coll.gap z.coll.items b.0 made ∙ ap (λ (l : List ℕ). l ++ made) own;
        };
  }
    where
      go : {k : ℕ} → (0 < length mid) ⊎ ((s.place.more ≡ false) × (s.place.start < s.place.end)) → k ≡ size_of s + length (mid ++ gone) → length gone < k
      go (inl h) is = omega (arith, h, is, length-append mid gone)
      go (inr h) is = omega (arith, h.1, is, length-append mid gone)

      own : (0 < length mid) ⊎ ((s.place.more ≡ false) × (s.place.start < s.place.end)) → s.place.more ≡ true → 0 < length mid
      own (inl h) more = h
      own (inr h) more = absurd (false≢true (sym h.0 ∙ more))

  -- ---- those after the change

  -- there is room for a place and what comes after it in the last bytes
  abbrev pub HasRoom : List SlotView → Type 0
  HasRoom [] = ⊤
  HasRoom (s ∷ ss) = (s.place.more ≡ false → length (slot_text t s) + length (text_from t s.place.end ss) < last) × (length (slot_text t s) + length (text_from t s.place.end ss) + apart_by ≤ last)

  old_length : (s : SlotView) → s.new ≡ None → s.place.end ≤ length t → length (slot_text t s) ≡ size_of s
  old_length s no_text within = ap (λ (o : Option (List ℕ)). length (put_or o (drop s.place.start (take s.place.end t)))) no_text ∙ between_length t s.place.start s.place.end within

  size_next : (p : SlotPlace) (s : SlotView) (ss : List SlotView) → AreInOrder p.end (slot_places (s ∷ ss)) (length t) →
      length (text_from t p.end (s ∷ ss)) ≡ (s.place.start - p.end) + (length (slot_text t s) + length (text_from t s.place.end ss))
  size_next p s ss order =
      let within = order_within s.place.end (length t) (slot_places ss) order.3 in
      omega (
        arith,
        ap length (split_at t p.end [] s ss order),
        length-append (drop p.end (take s.place.start t)) (slot_text t s ++ text_from t s.place.end ss),
        length-append (slot_text t s) (text_from t s.place.end ss),
        between_length t p.end s.place.start (omega (arith, order.1, within)),
      )

  pub room_next : (p : SlotPlace) (ss : List SlotView) → IsBeforeFirst p (slot_places ss) → AreInOrder p.end (slot_places ss) (length t) → length (text_from t p.end ss) + apart_by ≤ last → HasRoom ss
  room_next p [] first order small = tt
  room_next p (s ∷ ss) first order small = (λ one. go first one, omega (arith, small, size_next p s ss order))
    where
      go : ComesFirst p s.place → s.place.more ≡ false → length (slot_text t s) + length (text_from t s.place.end ss) < last
      go (inl less) one = omega (arith, less, small, size_next p s ss order)
      go (inr is) one = absurd (false≢true (sym one ∙ is.2))

  pub room_more : (p : SlotPlace) (ss : List SlotView) → p.more ≡ true → IsBeforeFirst p (slot_places ss) → AreInOrder p.end (slot_places ss) (length t) → length (text_from t p.end ss) ≤ last → apart_by ≤ 1 → HasRoom ss
  room_more p [] more first order small one = tt
  room_more p (s ∷ ss) more first order small one = (λ _. omega (arith, small, size_next p s ss order, less first), omega (arith, small, size_next p s ss order, less first, one))
    where
      less : ComesFirst p s.place → p.end < s.place.start
      less (inl h) = h
      less (inr h) = absurd (false≢true (sym h.1 ∙ more))

  stills_after : (q : ℕ) (ss : List SlotView) → AreInOrder q (slot_places ss) (length t) → HasRoom ss → AreStill c cut n stem ss → AreStill c next n stem ss
  stills_after q [] order room h = tt
  stills_after q (s ∷ ss) order room h =
      let within = order_within s.place.end (length t) (slot_places ss) order.3 in
      let small : length (text_from t s.place.end ss) + apart_by ≤ last = omega (arith, room.1) in (
        still_after s (text_from t s.place.end ss) h.0 order.1 within (λ one no_text. omega (arith, room.0 one, old_length s no_text within)) small,
        stills_after s.place.end ss order.3 (room_next s.place ss order.2 order.3 small) h.1,
      )

  -- ---- all of them

  module _ (s s2 : SlotView) (bs : List SlotView) (same : s2.place ≡ s.place) (front old new : List ℕ) (old_is : slot_text t s ≡ front ++ old) (new_is : slot_text t s2 ≡ front ++ new)
      (gone_is : gone ≡ old ++ text_from t s.place.end bs) (made_is : made ≡ new ++ text_from t s.place.end bs) (own : IsStill c next n stem s2 (text_from t s.place.end bs)) (room : HasRoom bs) where
    pub stills : (p : ℕ) (fs : List SlotView) → AreInOrder p (slot_places (fs ++ (s ∷ bs))) (length t) → AreStill c cut n stem (fs ++ (s ∷ bs)) → AreStill c next n stem (fs ++ (s2 ∷ bs))
    stills p [] order h = (subst (λ (q : SlotPlace). IsStill c next n stem s2 (text_from t q.end bs)) (sym same) own, stills_after s.place.end bs order.3 room h.1)
    stills p (a ∷ fs) order h =
        let within = order_within a.place.end (length t) (slot_places (fs ++ (s ∷ bs))) order.3 in
        let mid : List ℕ = front_of t a.place.end fs s.place.start ++ front in
        let was : text_from t a.place.end (fs ++ (s ∷ bs)) ≡ mid ++ gone = old_text c s s2 bs same front old new old_is new_is a.place.end fs order.3 ∙ ap (λ (l : List ℕ). mid ++ l) (sym gone_is) in
        let is : text_from t a.place.end (fs ++ (s2 ∷ bs)) ≡ mid ++ made = new_text_is c s s2 bs same front old new old_is new_is a.place.end fs order.3 ∙ ap (λ (l : List ℕ). mid ++ l) (sym made_is) in (
          subst (IsStill c next n stem a) (sym is) (still_before a mid (subst (IsStill c cut n stem a) was h.0) order.1 within (long (apart t a.place fs s bs order.2 order.3))),
          stills a.place.end fs order.3 h.1,
        )
      where
        long : (0 < length (front_of t a.place.end fs s.place.start)) ⊎ ((a.place.more ≡ false) × (a.place.start < a.place.end)) →
            (0 < length (front_of t a.place.end fs s.place.start ++ front)) ⊎ ((a.place.more ≡ false) × (a.place.start < a.place.end))
        long (inl h) = inl (omega (arith, h, length-append (front_of t a.place.end fs s.place.start) front))
        long (inr h) = inr h
