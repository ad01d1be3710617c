-- What was put at places is written, each after what comes before it in the text.
use Rattle.std.proofs.Common.{◌≡◌, ℕ, ◌≤◌, List, [], ◌∷◌, ◌++◌, drop, length, Option, None, sym, ap, ◌∙◌, subst, arith, append_assoc}
use Rattle.std.{proofs.Common.{append-nil, length-append}, specs.Str.IsCharBoundary}
use Rattle.yq_batch.{specs.declared.slots.SlotPlace.SlotPlace, specs.declared.slots.Slots.Slots}
use Rattle.yq_batch.specs.declared.slots.Slots.TheVariants.{One, Two'}
use Rattle.yq_batch.specs.Slots.{AreInOrder, IsBeforeFirst, SlotView, passed, slots_of, slot_places, text_from}
use Rattle.yq_batch.{specs.OpenRuns.{AreCharEdges, HasWritten, MayWrite}, proofs.SlotLaws.{order_from, order_within}}

-- there is a place at least
pub some_slots : (s : Slots) → 1 ≤ length (slots_of s)
some_slots (One p o) = omega arith
some_slots (Two' p left split olds news q right) = omega (arith, some_slots left, length-append (slots_of left) (slots_of right))

edges_front : (t : List ℕ) (xs ys : List SlotView) → AreCharEdges t (xs ++ ys) → AreCharEdges t xs
edges_front t [] ys h = tt
edges_front t (x ∷ xs) ys h = (h.0, edges_front t xs ys h.1)

edges_back : (t : List ℕ) (xs ys : List SlotView) → AreCharEdges t (xs ++ ys) → AreCharEdges t ys
edges_back t [] ys h = h
edges_back t (x ∷ xs) ys h = edges_back t xs ys h.1

first_front : (p : SlotPlace) (xs ys : List SlotView) → IsBeforeFirst p (slot_places (xs ++ ys)) → IsBeforeFirst p (slot_places xs)
first_front p [] ys h = tt
first_front p (x ∷ xs) ys h = h

order_front : (p n : ℕ) (xs ys : List SlotView) → AreInOrder p (slot_places (xs ++ ys)) n → AreInOrder p (slot_places xs) n
order_front p n [] ys h = order_within p n (slot_places ys) h
order_front p n (x ∷ xs) ys h = (h.0, h.1, first_front x.place xs ys h.2, order_front x.place.end n xs ys h.3)

module _ (t : List ℕ) where
  pub write_left : (at : ℕ) (l r : List SlotView) → MayWrite t at (l ++ r) → MayWrite t at l
  write_left at l r h = (edges_front t l r h.0, order_front at (length t) l r h.1)

  pub write_right : (at at2 : ℕ) (out out2 : List ℕ) (l r : List SlotView) → MayWrite t at (l ++ r) → HasWritten t l out at out2 at2 → MayWrite t at2 r
  write_right at at2 out out2 l r h w = (edges_back t l r h.0, w.reached r h.1)

  pub written_both : (at at2 at3 : ℕ) (out out2 out3 : List ℕ) (l r : List SlotView) → HasWritten t l out at out2 at2 → HasWritten t r out2 at2 out3 at3 → HasWritten t (l ++ r) out at out3 at3
  written_both at at2 at3 out out2 out3 l r first second = record {
    edge = second.edge;
    reached = λ after h. second.reached after (first.reached (r ++ after) (subst (λ (ss : List SlotView). AreInOrder at (slot_places ss) (length t)) (append_assoc l r after) h));
    text = λ after. second.text after ∙ (first.text (r ++ after) ∙ ap (λ (ss : List SlotView). out ++ text_from t at ss) (sym (append_assoc l r after)));
  }

  pub written_none : (at : ℕ) (out : List ℕ) (s : SlotView) → s.new ≡ None → IsCharBoundary t at → HasWritten t (s ∷ []) out at out at
  written_none at out s none edge = record {
    edge = edge;
    reached = λ after h. order_from s.place.end at (length t) (slot_places after) (omega (arith, h.0, h.1)) h.3;
    text = λ after. ap (λ (o : Option (List ℕ)). out ++ passed t at s.place.start (text_from t at after) (text_from t s.place.end after) o) (sym none);
  }

  -- all of it, from the start on
  pub all_written : (out : List ℕ) (at : ℕ) (ss : List SlotView) → HasWritten t ss [] 0 out at → out ++ drop at t ≡ text_from t 0 ss
  all_written out at ss h = h.text [] ∙ ap (text_from t 0) (append-nil ss)
