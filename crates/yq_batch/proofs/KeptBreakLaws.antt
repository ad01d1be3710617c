-- The first break of a text stays what it is, where something without a break is put after a break, or on the first line.
use Rattle.std.proofs.Common.{◌≡◌, ◌⊎◌, inl, inr, ℕ, suc, ◌-◌, ◌≤◌, slice_index_or, take_all, Bool, true, false, ◌||◌, ◌&&◌, cond, List, []}
use Rattle.std.proofs.Common.{◌∷◌, ◌++◌, drop, take, length, Option, Some, None, refl, sym, ap, ◌∙◌, subst, arith, append_assoc, append-nil}
use Rattle.std.{proofs.lemmas.Bool.{and_parts, false≢true, or_parts}, proofs.lemmas.List.Folds.list_any-append, specs.List.list_any}
use Rattle.std.proofs.lemmas.List.{append_cancel_right, take-append-drop, take-append-le, take-take}
use Rattle.yq_core.{specs.Characters.pairs_returns, specs.Plain.holds_break, specs.Scalar.ScalarText, specs.Scalars.scalar_style}
use Rattle.yq_core.{specs.NodesWritten.flow_of, specs.Nodes.node_text, specs.Text.{ends_line, front, is_break, is_feed, is_return, upto}}
use Rattle.yq_core.{specs.Tree.Node, specs.declared.block_types.Break.Break, specs.declared.block_types.Break.TheVariants.{Lf, CrLf}}
use Rattle.yq_core.specs.declared.style.Place.TheVariants.{Block as InBlock}
use Rattle.yq_places.specs.FirstBreak.{first_break}
use Rattle.yq_flow_edits.{specs.Valued.IsValueTree, proofs.StyledScalars.styled_spells}
use Rattle.yq_edit_rules.{specs.BlockReading.is_filled, specs.Style.style_in, specs.WrittenValues.value_text}
use Rattle.yq_edit_rules.{proofs.StyleLaws.{style_inline, style_writes}, proofs.ValueTexts.style_line}
use Rattle.yq_batch.{specs.KeptBreaks.{BreaksAlike, BreaksAlikeUpto, IsUnbroken, KeepsFirstBreak}, specs.declared.slots.SlotPlace.SlotPlace}
use Rattle.yq_batch.specs.Slots.{AreInOrder, SlotView, passed, slot_places, slot_text, text_from}
use Rattle.yq_batch.proofs.SlotLaws.{front_of, order_at, order_from, split_at, starts_at}
use Rattle.yq_core.specs.Tree as tree

-- ---- first breaks

here : (b : ℕ) (t : List ℕ) → is_break (b ∷ t) ≡ true → first_break (b ∷ t) ≡ cond (is_return b) CrLf Lf
unfolding upto
here b t is = ap (λ (f : Bool). cond (front is_return (drop (cond f 0 (suc (upto ends_line t))) (b ∷ t))) CrLf Lf) is

later : (b : ℕ) (t : List ℕ) → is_break (b ∷ t) ≡ false → first_break (b ∷ t) ≡ first_break t
unfolding upto
later b t is = ap (λ (f : Bool). cond (front is_return (drop (cond f 0 (suc (upto ends_line t))) (b ∷ t))) CrLf Lf) is

-- after a break anything may come
pub break_before : (x y z : List ℕ) → holds_break x ≡ true → first_break (x ++ y) ≡ first_break (x ++ z)
break_before [] y z h = absurd (false≢true h)
break_before (b ∷ []) y z h = here b y (feed y) ∙ sym (here b z (feed z))
  where
    feed : (t : List ℕ) → is_break (b ∷ t) ≡ true
    feed t = go (is_feed b) h
      where
        go : (f : Bool) → (f || false) ≡ true → (f || (is_return b && front is_feed t)) ≡ true
        go true is = refl
        go false is = absurd (false≢true is)
break_before (b ∷ (c ∷ x)) y z h = go (is_break (b ∷ (c ∷ x))) refl (break_before (c ∷ x) y z)
  where
    left : is_break (b ∷ (c ∷ x)) ≡ false → holds_break (c ∷ x) ≡ true
    left none = ap (λ (f : Bool). f || holds_break (c ∷ x)) (sym (or_parts (is_feed b) (is_return b && is_feed c) none).0) ∙ h

    go : (f : Bool) → is_break (b ∷ (c ∷ x)) ≡ f → (holds_break (c ∷ x) ≡ true → first_break (c ∷ (x ++ y)) ≡ first_break (c ∷ (x ++ z))) →
        first_break (b ∷ (c ∷ (x ++ y))) ≡ first_break (b ∷ (c ∷ (x ++ z)))
    go true is again = here b (c ∷ (x ++ y)) is ∙ sym (here b (c ∷ (x ++ z)) is)
    go false is again = later b (c ∷ (x ++ y)) is ∙ (again (left is) ∙ sym (later b (c ∷ (x ++ z)) is))

-- a text without a break has no part in it
pub unbroken_before : (x y : List ℕ) → IsUnbroken x → first_break (x ++ y) ≡ first_break y
unbroken_before [] y h = refl
unbroken_before (b ∷ x) y h =
    let f = or_parts (is_feed b) (holds_break x) h.0 in
    let r = or_parts (is_return b) (list_any is_return x) h.1 in
    later b (x ++ y) ((λ i. f.0 i || (r.0 i && front is_feed (x ++ y)))) ∙ unbroken_before x y (f.1, r.1)

pub holds_more : (x y : List ℕ) → holds_break x ≡ true → holds_break (x ++ y) ≡ true
holds_more x y h = list_any-append is_feed x y ∙ ap (λ (f : Bool). f || holds_break y) h

pub holds_after : (x y : List ℕ) → holds_break y ≡ true → holds_break (x ++ y) ≡ true
holds_after [] y h = h
holds_after (b ∷ x) y h = go (is_feed b) (holds_after x y h)
  where
    go : (f : Bool) → holds_break (x ++ y) ≡ true → (f || holds_break (x ++ y)) ≡ true
    go true is = refl
    go false is = is

-- ---- values on one line

no_returns : (t : List ℕ) → holds_break t ≡ false → pairs_returns t ≡ true → list_any is_return t ≡ false
unfolding pairs_returns
no_returns [] h p = refl
no_returns (b ∷ t) h p = let none = (or_parts (is_feed b) (holds_break t) h).1 in go (is_return b) none p (no_returns t none)
  where
    no_feed : (t : List ℕ) → holds_break t ≡ false → front is_feed t ≡ false
    no_feed [] none = refl
    no_feed (c ∷ t) none = (or_parts (is_feed c) (holds_break t) none).0

    go : (r : Bool) → holds_break t ≡ false → cond r (front is_feed t && pairs_returns t) (pairs_returns t) ≡ true →
        (pairs_returns t ≡ true → list_any is_return t ≡ false) → (r || list_any is_return t) ≡ false
    go true none is again = absurd (false≢true (sym (no_feed t none) ∙ (and_parts (front is_feed t) (pairs_returns t) is).0))
    go false none is again = again is

pub value_unbroken : (old : List ℕ) (v : Node) → IsValueTree v → is_filled v ≡ false → IsUnbroken (value_text InBlock old v)
unfolding flow_of node_text
value_unbroken old (tree.alias name) h plain = absurd h
value_unbroken old (tree.scalar a kind text) h plain =
    let s : ScalarText = record { kind = kind; text = text } in
    let w = styled_spells s (style_in InBlock s (scalar_style old)) h.1 (style_inline InBlock s (scalar_style old) (style_line old))
    (style_writes InBlock s (scalar_style old)) in
    (w.line, no_returns _ w.line (and_parts _ _ w.text).1)
value_unbroken old (tree.list a tree.none) h plain = (refl, refl)
value_unbroken old (tree.list a (tree.child label n cs)) h plain = absurd (cc)
value_unbroken old (tree.map a tree.none) h plain = (refl, refl)
value_unbroken old (tree.map a (tree.child label n cs)) h plain = absurd (cc)

-- ---- what the code finds of a text that begins with another one

pub near_before : (x y line : List ℕ) (k n : ℕ) → line ≡ take k x → k ≤ n → k ≤ length x → holds_break line ≡ true → holds_break (take n (x ++ y)) ≡ true
near_before x y line k n is le within h =
    let front : take k (take n (x ++ y)) ≡ line = take-take k n (x ++ y) le ∙ (take-append-le k x y within ∙ sym is) in
    ap holds_break (sym (take-append-drop k (take n (x ++ y)))) ∙ holds_more (take k (take n (x ++ y))) (drop k (take n (x ++ y))) (ap holds_break front ∙ h)

pub line_unbroken : (x y line : List ℕ) (k n : ℕ) → line ≡ take k x → k ≡ n → n ≤ length x → holds_break line ≡ false →
    list_any is_return line ≡ false → IsUnbroken (take n (x ++ y))
line_unbroken x y line k n is same within feeds returns =
    subst IsUnbroken (is ∙ (ap (λ (i : ℕ). take i x) same ∙ sym (take-append-le n x y within))) (feeds, returns)

pub alike_between : (x y l : List ℕ) (start end : ℕ) (own part : Break) → l ≡ drop start (take end x) → end ≤ length x → holds_break l ≡ true →
    ((more : List ℕ) → first_break (x ++ more) ≡ own) →
    ((more : List ℕ) → first_break (l ++ more) ≡ part) → own ≡ part → BreaksAlike (x ++ y) start end
alike_between x y l start end own part is within h of_text of_part same =
    subst (λ (a : List ℕ). (holds_break a ≡ true) × (first_break a ≡ first_break (x ++ y))) (is ∙ ap (drop start) (sym (take-append-le end x y within)))
    (h, ap first_break (sym (append-nil l)) ∙ (of_part [] ∙ (sym same ∙ sym (of_text y))))

pub keeps_before : (t : List ℕ) (ps : List SlotPlace) (p : SlotPlace) → 1 ≤ length ps → holds_break (take (slice_index_or ps 0 p).start t) ≡ true →
    KeepsFirstBreak t ps
keeps_before t [] p some h = absurd (omega (arith, some))
keeps_before t (q ∷ qs) p some h = inl h

pub keeps_line : (t : List ℕ) (ps : List SlotPlace) (p q : SlotPlace) → 1 ≤ length ps → 1 ≤ length (take (length ps - 1) (drop 1 ps)) →
    IsUnbroken (take (slice_index_or ps 0 p).start t) →
    BreaksAlike t (slice_index_or ps 0 p).end (slice_index_or (take (length ps - 1) (drop 1 ps)) 0 q).start → KeepsFirstBreak t ps
keeps_line t [] p q some more line alike = absurd (omega (arith, some))
keeps_line t (a ∷ qs) p q some more line alike =
    let all : take (length (a ∷ qs) - 1) qs ≡ qs = take_all (length (a ∷ qs) - 1) qs (omega arith) in
    inr (
      line,
      go qs (subst (λ (l : List SlotPlace). 1 ≤ length l) all more)
          (subst (λ (l : List SlotPlace). BreaksAlike t a.end (slice_index_or l 0 q).start) all alike),
    )
  where
    go : (l : List SlotPlace) → 1 ≤ length l → BreaksAlike t a.end (slice_index_or l 0 q).start → BreaksAlikeUpto t a.end l
    go [] none is = absurd (omega (arith, none))
    go (b ∷ l) one is = is

-- ---- what comes before a place

module _ (t : List ℕ) where
  -- up to the first place nothing was put
  front_begins : (p x : ℕ) (fs : List SlotView) (s : SlotView) (bs : List SlotView) → p ≤ x → AreInOrder x (slot_places (fs ++ (s ∷ bs))) (length t) →
      front_of t p fs s.place.start ≡ drop p (take x t) ++ front_of t x fs s.place.start
  front_begins p x fs s bs le h =
      let front : List ℕ = drop p (take x t) in
      let after : List ℕ = slot_text t s ++ text_from t s.place.end bs in
      append_cancel_right (front_of t p fs s.place.start) (front ++ front_of t x fs s.place.start) after
      (sym (split_at t p fs s bs (order_from x p (length t) (slot_places (fs ++ (s ∷ bs))) le h))
      ∙ (starts_at t p x (fs ++ (s ∷ bs)) le h
      ∙ (ap (λ (l : List ℕ). front ++ l) (split_at t x fs s bs h) ∙ sym (append_assoc front (front_of t x fs s.place.start) after))))

  -- a break is before the next place
  abbrev NextBreaks : (at : ℕ) (fs : List SlotView) (s : SlotView) (bs : List SlotView) → Type 0
  NextBreaks at fs s bs = (x : ℕ) × (at ≤ x) × AreInOrder x (slot_places (fs ++ (s ∷ bs))) (length t) × (holds_break (drop at (take x t)) ≡ true)

  next_at : (at : ℕ) (fs : List SlotView) (s : SlotView) (bs : List SlotView) → AreInOrder at (slot_places (fs ++ (s ∷ bs))) (length t) →
      BreaksAlikeUpto t at (slot_places (fs ++ (s ∷ bs))) → NextBreaks at fs s bs
  next_at at [] s bs h b = (s.place.start, h.0, (omega arith, h.1, h.2, h.3), b.0)
  next_at at (f ∷ fs) s bs h b = (f.place.start, h.0, (omega arith, h.1, h.2, h.3), b.0)

  -- a break is before a place, or nothing is but the first line
  before_kept : (fs : List SlotView) (s : SlotView) (bs : List SlotView) → AreInOrder 0 (slot_places (fs ++ (s ∷ bs))) (length t) →
      KeepsFirstBreak t (slot_places (fs ++ (s ∷ bs))) →
      (holds_break (front_of t 0 fs s.place.start) ≡ true) ⊎ ((fs ≡ []) × IsUnbroken (take s.place.start t) × BreaksAlikeUpto t s.place.end (slot_places bs))
  before_kept [] s bs h (inl is) = inl is
  before_kept [] s bs h (inr is) = inr (refl, is.0, is.1)
  before_kept (p ∷ fs) s bs h (inl is) = inl (go p.new)
    where
      go : (o : Option (List ℕ)) → holds_break (passed t 0 p.place.start (front_of t 0 fs s.place.start) (front_of t p.place.end fs s.place.start) o) ≡ true
      go None =
          ap holds_break (front_begins 0 p.place.start fs s bs (omega arith)
          (order_from p.place.end p.place.start (length t) (slot_places (fs ++ (s ∷ bs))) h.1 h.3))
          ∙ holds_more (take p.place.start t) (front_of t p.place.start fs s.place.start) is
      go (Some w) = holds_more (take p.place.start t) (w ++ front_of t p.place.end fs s.place.start) is
  before_kept (p ∷ fs) s bs h (inr is) = inl (go p.new)
    where
      n : NextBreaks p.place.end fs s bs
      n = next_at p.place.end fs s bs h.3 is.1

      between : List ℕ
      between = drop p.place.end (take n.0 t)

      go : (o : Option (List ℕ)) → holds_break (passed t 0 p.place.start (front_of t 0 fs s.place.start) (front_of t p.place.end fs s.place.start) o) ≡ true
      go None =
          ap holds_break (front_begins 0 n.0 fs s bs (omega arith) n.2)
          ∙ holds_more (take n.0 t) (front_of t n.0 fs s.place.start)
          (ap holds_break (sym (take-append-drop p.place.end (take n.0 t))) ∙ holds_after (take p.place.end (take n.0 t)) between n.3)
      go (Some w) =
          holds_after (take p.place.start t) (w ++ front_of t p.place.end fs s.place.start)
          (holds_after w (front_of t p.place.end fs s.place.start)
          (ap holds_break (front_begins p.place.end n.0 fs s bs n.1 n.2) ∙ holds_more between (front_of t n.0 fs s.place.start) n.3))

  -- the first break after the first line
  rest_alike : (at : ℕ) (bs : List SlotView) → AreInOrder at (slot_places bs) (length t) → BreaksAlikeUpto t at (slot_places bs) →
      first_break (text_from t at bs) ≡ first_break t
  rest_alike at [] h alike = absurd alike
  rest_alike at (b ∷ bs) h alike =
      let l : List ℕ = drop at (take b.place.start t) in
      ap first_break (starts_at t at b.place.start (b ∷ bs) h.0 (omega arith, h.1, h.2, h.3))
      ∙ (break_before l (text_from t b.place.start (b ∷ bs)) [] alike.0 ∙ (ap first_break (append-nil l) ∙ alike.1))

  -- a text without a break put at a place
  pub put_keeps : (fs : List SlotView) (s : SlotView) (bs : List SlotView) (old written : List ℕ) →
      AreInOrder 0 (slot_places (fs ++ (s ∷ bs))) (length t) → KeepsFirstBreak t (slot_places (fs ++ (s ∷ bs))) →
      IsUnbroken written → first_break ((front_of t 0 fs s.place.start ++ []) ++ (old ++ text_from t s.place.end bs)) ≡ first_break t →
      first_break ((front_of t 0 fs s.place.start ++ []) ++ (written ++ text_from t s.place.end bs)) ≡ first_break t
  put_keeps fs s bs old written order keeps line was = go (before_kept fs s bs order keeps)
    where
      before : List ℕ
      before = front_of t 0 fs s.place.start

      rest : List ℕ
      rest = text_from t s.place.end bs

      go : (holds_break before ≡ true) ⊎ ((fs ≡ []) × IsUnbroken (take s.place.start t) × BreaksAlikeUpto t s.place.end (slot_places bs)) →
          first_break ((before ++ []) ++ (written ++ rest)) ≡ first_break t
      go (inl h) = break_before (before ++ []) (written ++ rest) (old ++ rest) (holds_more before [] h) ∙ was
      go (inr h) =
          let same : before ++ [] ≡ take s.place.start t = append-nil before ∙ ap (λ (ss : List SlotView). front_of t 0 ss s.place.start) h.0 in
          ap (λ (l : List ℕ). first_break (l ++ (written ++ rest))) same
          ∙ (unbroken_before (take s.place.start t) (written ++ rest) h.1
          ∙ (unbroken_before written rest line ∙ rest_alike s.place.end bs (order_at 0 (length t) fs s bs order).3 h.2))
