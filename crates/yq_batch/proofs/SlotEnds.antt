-- The last one of places, where no bytes are replaced, and what comes after those before it.
use Rattle.std.proofs.Common.{◌≡◌, ℕ, suc, ◌≤◌, true, List, [], ◌∷◌, ◌++◌, drop, take, length, Option, Some, None, refl, sym, ap, ◌∙◌}
use Rattle.std.{proofs.Common.{arith, length-append}, proofs.lemmas.Bool.false≢true, proofs.lemmas.List.length-drop}
use mathlib.Core.List.{head-eq_of_cons-eq, tail-eq_of_cons-eq}
use Rattle.yq_batch.{specs.RowEnds.{LeaveRoom, EndAt}, specs.declared.slots.SlotPlace.SlotPlace}
use Rattle.yq_batch.{specs.Slots.{AreInOrder, SlotView, passed, slot_places, text_from}, proofs.SlotLaws.{between_length, starts_at}}

-- one that isn't the last one comes before that
pub following_last : (fs : List SlotView) (s : SlotView) (bs gs : List SlotView) (l : SlotView) → fs ++ (s ∷ bs) ≡ gs ++ (l ∷ []) → (s ≡ l → ⊥) → (hs : List SlotView) × (bs ≡ hs ++ (l ∷ []))
following_last [] s bs [] l e other = absurd (other (head-eq_of_cons-eq e))
following_last [] s bs (g ∷ gs) l e other = (gs, tail-eq_of_cons-eq e)
following_last (f ∷ fs) s bs [] l e other = absurd (omega (arith, ap length (tail-eq_of_cons-eq e), length-append fs (s ∷ bs)))
following_last (f ∷ fs) s bs (g ∷ gs) l e other = following_last fs s bs gs l (tail-eq_of_cons-eq e) other

-- places from one of them on
pub apart_from : (fs : List SlotView) (s : SlotView) (bs : List SlotView) → LeaveRoom (slot_places (fs ++ (s ∷ bs))) → LeaveRoom (s.place ∷ slot_places bs)
apart_from [] s bs h = h
apart_from (f ∷ fs) s bs h = apart_from fs s bs h.1

-- at which more is put, so that none comes after it
pub last_alone : (s : SlotPlace) (bs : List SlotView) → LeaveRoom (s ∷ slot_places bs) → s.more ≡ true → bs ≡ []
last_alone s [] h more = refl
last_alone s (b ∷ bs) h more = absurd (false≢true (sym h.0.1 ∙ more))

-- what is after a place is longer than what is after the last one
pub more_left : (t : List ℕ) (x : SlotPlace) (hs : List SlotView) (l : SlotView) → LeaveRoom (x ∷ slot_places (hs ++ (l ∷ []))) → AreInOrder x.end (slot_places (hs ++ (l ∷ []))) (length t) →
    suc (length (drop l.place.end t)) ≤ length (text_from t x.end (hs ++ (l ∷ [])))
more_left t x [] l far order = go l.new
  where
    go : (o : Option (List ℕ)) → suc (length (drop l.place.end t)) ≤ length (passed t x.end l.place.start (drop x.end t) (drop l.place.end t) o)
    go None = omega (arith, far.0.0, order.1, order.3, length-drop l.place.end t, length-drop x.end t)
    go (Some w) =
        omega (
          arith,
          far.0.0,
          order.1,
          order.3,
          length-append (drop x.end (take l.place.start t)) (w ++ drop l.place.end t),
          length-append w (drop l.place.end t),
          between_length t x.end l.place.start (omega (arith, order.1, order.3)),
        )
more_left t x (a ∷ hs) l far order = go a.new (more_left t a.place hs l far.1 order.3)
  where
    after : List SlotView
    after = hs ++ (l ∷ [])

    go : (o : Option (List ℕ)) → suc (length (drop l.place.end t)) ≤ length (text_from t a.place.end after) →
        suc (length (drop l.place.end t)) ≤ length (passed t x.end a.place.start (text_from t x.end after) (text_from t a.place.end after) o)
    go None less =
        omega (arith, less, ap length (starts_at t x.end a.place.end after (omega (arith, order.0, order.1)) order.3), length-append (drop x.end (take a.place.end t)) (text_from t a.place.end after))
    go (Some w) less =
        omega (arith, less, length-append (drop x.end (take a.place.start t)) (w ++ text_from t a.place.end after), length-append w (text_from t a.place.end after))

-- the last one of places
pub last_of : (at : ℕ) (p : SlotPlace) (ps : List SlotPlace) → EndAt at (p ∷ ps) → (front : List SlotPlace) × (l : SlotPlace) × (p ∷ ps ≡ front ++ (l ∷ [])) × (l.start ≡ at) × (l.end ≡ at)
last_of at p [] h = ([], p, refl, h.0.0, h.0.1)
last_of at p (q ∷ ps) h = let x = last_of at q ps h.1 in (p ∷ x.0, x.1, ap (λ (qs : List SlotPlace). p ∷ qs) x.2, x.3, x.4)
