-- The text with what was put at places in any order: before a place, there, and after it.
use Rattle.std.proofs.Common.{◌≡◌, ◌⊎◌, inl, inr, ℕ, ◌+◌, ◌-◌, ◌<◌, ◌≤◌, false, List, [], ◌∷◌, ◌++◌, drop, take, length, map, Option, Some}
use Rattle.std.proofs.Common.{None, refl, sym, ap, ◌∙◌, arith, append_assoc, length-append}
use Rattle.std.proofs.lemmas.List.{drop-append-le, length-drop, length-take-le, take-append-drop, take-take}
use Rattle.yq_batch.specs.declared.slots.SlotPlace.{SlotPlace}
use Rattle.yq_batch.specs.Slots.{AreInOrder, IsBeforeFirst, SlotView, count_of, empty_slot, news_of, olds_of, passed, slot_places, put_or}
use Rattle.yq_batch.specs.Slots.{slot_text, text_from}

-- ---- places in order

pub order_within : (p n : ℕ) (qs : List SlotPlace) → AreInOrder p qs n → p ≤ n
order_within p n [] h = h
order_within p n (q ∷ qs) h = omega (arith, h.0, h.1, order_within q.end n qs h.3)

pub order_from : (p x n : ℕ) (qs : List SlotPlace) → x ≤ p → AreInOrder p qs n → AreInOrder x qs n
order_from p x n [] le h = omega (arith, le, h)
order_from p x n (q ∷ qs) le h = (omega (arith, le, h.0), h.1, h.2, h.3)

pub places_same : (fs : List SlotView) (s s2 : SlotView) (bs : List SlotView) → s2.place ≡ s.place → slot_places (fs ++ (s2 ∷ bs)) ≡ slot_places (fs ++ (s ∷ bs))
places_same [] s s2 bs same = ap (λ (p : SlotPlace). p ∷ slot_places bs) same
places_same (a ∷ fs) s s2 bs same = ap (λ (ps : List SlotPlace). a.place ∷ ps) (places_same fs s s2 bs same)

-- a place among others
pub order_at : (p n : ℕ) (fs : List SlotView) (s : SlotView) (bs : List SlotView) → AreInOrder p (slot_places (fs ++ (s ∷ bs))) n →
    (p ≤ s.place.start) × (s.place.start ≤ s.place.end) × IsBeforeFirst s.place (slot_places bs) × AreInOrder s.place.end (slot_places bs) n
order_at p n [] s bs h = h
order_at p n (a ∷ fs) s bs h = let b = order_at a.place.end n fs s bs h.3 in (omega (arith, h.0, h.1, b.0), b.1, b.2, b.3)

-- ---- texts between places

module _ (t : List ℕ) where
  pub between_split : (p q r : ℕ) → p ≤ q → q ≤ r → r ≤ length t → drop p (take r t) ≡ drop p (take q t) ++ drop q (take r t)
  between_split p q r pq qr rt =
      ap (drop p) (sym (take-append-drop q (take r t)) ∙ ap (λ (l : List ℕ). l ++ drop q (take r t)) (take-take q r t qr))
      ∙ drop-append-le p (take q t) (drop q (take r t)) (omega (arith, pq, length-take-le q t (omega (arith, qr, rt))))

  rest_split : (p q : ℕ) → p ≤ q → q ≤ length t → drop p t ≡ drop p (take q t) ++ drop q t
  rest_split p q pq qt = ap (drop p) (sym (take-append-drop q t)) ∙ drop-append-le p (take q t) (drop q t) (omega (arith, pq, length-take-le q t qt))

  pub between_length : (p r : ℕ) → r ≤ length t → length (drop p (take r t)) ≡ r - p
  between_length p r rt = omega (arith, length-drop p (take r t), length-take-le r t rt)

  -- what comes up to an offset before which nothing was put
  pub starts_at : (p q : ℕ) (ss : List SlotView) → p ≤ q → AreInOrder q (slot_places ss) (length t) → text_from t p ss ≡ drop p (take q t) ++ text_from t q ss
  starts_at p q [] le h = rest_split p q le h
  starts_at p q (s ∷ ss) le h = go s.new (starts_at p q ss le (order_from s.place.end q (length t) (slot_places ss) (omega (arith, h.0, h.1)) h.3))
    where
      go : (o : Option (List ℕ)) → text_from t p ss ≡ drop p (take q t) ++ text_from t q ss →
          passed t p s.place.start (text_from t p ss) (text_from t s.place.end ss) o ≡ drop p (take q t)
          ++ passed t q s.place.start (text_from t q ss) (text_from t s.place.end ss) o
      go None again = again
      go (Some w) again =
          ap (λ (l : List ℕ). l ++ (w ++ text_from t s.place.end ss)) (between_split p q s.place.start le h.0 (omega (arith, h.1, order_within s.place.end (length t) (slot_places ss) h.3)))
          ∙ append_assoc (drop p (take q t)) (drop q (take s.place.start t)) (w ++ text_from t s.place.end ss)

  -- the text from an offset up to another one, with what was put at places between
  abbrev pub front_of : ℕ → List SlotView → ℕ → List ℕ
  front_of p [] q = drop p (take q t)
  front_of p (a ∷ fs) q = passed t p a.place.start (front_of p fs q) (front_of a.place.end fs q) a.new

  -- before a place, there, and after it
  pub split_at : (p : ℕ) (fs : List SlotView) (s : SlotView) (bs : List SlotView) → AreInOrder p (slot_places (fs ++ (s ∷ bs))) (length t) →
      text_from t p (fs ++ (s ∷ bs)) ≡ front_of p fs s.place.start ++ (slot_text t s ++ text_from t s.place.end bs)
  split_at p [] s bs h = go s.new
    where
      within : s.place.end ≤ length t
      within = order_within s.place.end (length t) (slot_places bs) h.3

      go : (o : Option (List ℕ)) → passed t p s.place.start (text_from t p bs) (text_from t s.place.end bs) o ≡ drop p (take s.place.start t) ++ (put_or o (drop s.place.start (take s.place.end t)) ++ text_from t s.place.end bs)
      go None =
          starts_at p s.place.end bs (omega (arith, h.0, h.1)) h.3
          ∙ (ap (λ (l : List ℕ). l ++ text_from t s.place.end bs) (between_split p s.place.start s.place.end h.0 h.1 within)
          ∙ append_assoc (drop p (take s.place.start t)) (drop s.place.start (take s.place.end t)) (text_from t s.place.end bs))
      go (Some w) = refl
  split_at p (a ∷ fs) s bs h = go a.new (split_at p fs s bs (order_from a.place.end p (length t) (slot_places (fs ++ (s ∷ bs))) (omega (arith, h.0, h.1)) h.3)) (split_at a.place.end fs s bs h.3)
    where
      following : List ℕ
      following = slot_text t s ++ text_from t s.place.end bs

      go : (o : Option (List ℕ)) → text_from t p (fs ++ (s ∷ bs)) ≡ front_of p fs s.place.start ++ following → text_from t a.place.end (fs ++ (s ∷ bs)) ≡ front_of a.place.end fs s.place.start ++ following →
          passed t p a.place.start (text_from t p (fs ++ (s ∷ bs))) (text_from t a.place.end (fs ++ (s ∷ bs))) o ≡ passed t p a.place.start (front_of p fs s.place.start) (front_of a.place.end fs s.place.start) o ++ following
      go None before after = before
      go (Some w) before after =
          ap (λ (l : List ℕ). drop p (take a.place.start t) ++ (w ++ l)) after
          ∙ (ap (λ (l : List ℕ). drop p (take a.place.start t) ++ l) (sym (append_assoc w (front_of a.place.end fs s.place.start) following))
          ∙ sym (append_assoc (drop p (take a.place.start t)) (w ++ front_of a.place.end fs s.place.start) following))

  -- how long the text before a place is
  pub front_length : (p : ℕ) (fs : List SlotView) (s : SlotView) (bs : List SlotView) → AreInOrder p (slot_places (fs ++ (s ∷ bs))) (length t) →
      length (front_of p fs s.place.start) + olds_of fs ≡ (s.place.start - p) + news_of fs
  front_length p [] s bs h = omega (arith, between_length p s.place.start (omega (arith, h.1, order_within s.place.end (length t) (slot_places bs) h.3)))
  front_length p (a ∷ fs) s bs h =
      go a.new (front_length p fs s bs (order_from a.place.end p (length t) (slot_places (fs ++ (s ∷ bs))) (omega (arith, h.0, h.1)) h.3)) (front_length a.place.end fs s bs h.3)
    where
      go : (o : Option (List ℕ)) → length (front_of p fs s.place.start) + olds_of fs ≡ (s.place.start - p) + news_of fs → length (front_of a.place.end fs s.place.start) + olds_of fs ≡ (s.place.start - a.place.end) + news_of fs →
          length (passed t p a.place.start (front_of p fs s.place.start) (front_of a.place.end fs s.place.start) o) + (count_of o (a.place.end - a.place.start) + olds_of fs) ≡ (s.place.start - p) + (length (put_or o []) + news_of fs)
      go None before after = omega (arith, before)
      go (Some w) before after =
          omega (
            arith,
            after,
            h.0,
            h.1,
            (order_at a.place.end (length t) fs s bs h.3).0,
            length-append (drop p (take a.place.start t)) (w ++ front_of a.place.end fs s.place.start),
            length-append w (front_of a.place.end fs s.place.start),
            between_length p a.place.start (omega (arith, h.1, order_within a.place.end (length t) (slot_places (fs ++ (s ∷ bs))) h.3)),
          )

  -- it is no shorter than what comes before the first place
  front_long : (p x : ℕ) (fs : List SlotView) (s : SlotView) (bs : List SlotView) → p ≤ x → AreInOrder x (slot_places (fs ++ (s ∷ bs))) (length t) → x ≤ p + length (front_of p fs s.place.start)
  front_long p x [] s bs le h = omega (arith, le, h.0, between_length p s.place.start (omega (arith, h.1, order_within s.place.end (length t) (slot_places bs) h.3)))
  front_long p x (a ∷ fs) s bs le h = go a.new (front_long p a.place.end fs s bs (omega (arith, le, h.0, h.1)) h.3)
    where
      go : (o : Option (List ℕ)) → a.place.end ≤ p + length (front_of p fs s.place.start) → x ≤ p + length (passed t p a.place.start (front_of p fs s.place.start) (front_of a.place.end fs s.place.start) o)
      go None after = omega (arith, h.0, h.1, after)
      go (Some w) after =
          omega (
            arith,
            le,
            h.0,
            length-append (drop p (take a.place.start t)) (w ++ front_of a.place.end fs s.place.start),
            between_length p a.place.start (omega (arith, h.1, order_within a.place.end (length t) (slot_places (fs ++ (s ∷ bs))) h.3)),
          )

  -- something is between two places, or the first one is a content
  pub apart : (q : SlotPlace) (fs : List SlotView) (s : SlotView) (bs : List SlotView) → IsBeforeFirst q (slot_places (fs ++ (s ∷ bs))) → AreInOrder q.end (slot_places (fs ++ (s ∷ bs))) (length t) →
      (0 < length (front_of q.end fs s.place.start)) ⊎ ((q.more ≡ false) × (q.start < q.end))
  apart q [] s bs (inl less) h = inl (omega (arith, less, front_long q.end s.place.start [] s bs h.0 (omega arith, h.1, h.2, h.3)))
  apart q (a ∷ fs) s bs (inl less) h = inl (omega (arith, less, front_long q.end a.place.start (a ∷ fs) s bs h.0 (omega arith, h.1, h.2, h.3)))
  apart q [] s bs (inr is) h = inr (is.1, is.3)
  apart q (a ∷ fs) s bs (inr is) h = inr (is.1, is.3)

-- ---- nothing was put yet

pub places_empty : (ps : List SlotPlace) → slot_places (map empty_slot ps) ≡ ps
places_empty [] = refl
places_empty (p ∷ ps) = ap (λ (qs : List SlotPlace). p ∷ qs) (places_empty ps)

pub text_empty : (t : List ℕ) (at : ℕ) (ps : List SlotPlace) → text_from t at (map empty_slot ps) ≡ drop at t
text_empty t at [] = refl
text_empty t at (p ∷ ps) = text_empty t at ps
