-- A text put at one of several places: which one, and how many bytes were replaced before others.
use Rattle.std.proofs.Common.{◌≡◌, ℕ, ◌+◌, ◌-◌, List, [], ◌∷◌, ◌++◌, length, map, Option, Some, None, refl, sym, ap, ◌∙◌, arith}
use Rattle.std.{proofs.Common.{append_assoc, length-append, Result, Ok, Err, IfOk}, specs.Prelude.IfSome}
use Rattle.yq_batch.specs.declared.slots.SlotPlace.{SlotPlace}
use Rattle.yq_batch.specs.Slots.{IsPutAt, IsPutIn, SlotView, count_of, empty_slot, news_of, olds_of, put_or, put_text}

olds_append : (xs ys : List SlotView) → olds_of (xs ++ ys) ≡ olds_of xs + olds_of ys
olds_append [] ys = omega arith
olds_append (x ∷ xs) ys = omega (arith, olds_append xs ys)

news_append : (xs ys : List SlotView) → news_of (xs ++ ys) ≡ news_of xs + news_of ys
news_append [] ys = omega arith
news_append (x ∷ xs) ys = omega (arith, news_append xs ys)

-- nothing was put at places
pub none_olds : (ps : List SlotPlace) → olds_of (map empty_slot ps) ≡ 0
none_olds [] = refl
none_olds (p ∷ ps) = omega (arith, none_olds ps)

pub none_news : (ps : List SlotPlace) → news_of (map empty_slot ps) ≡ 0
none_news [] = refl
none_news (p ∷ ps) = omega (arith, none_news ps)

module _ (place : SlotPlace) (lead written : List ℕ) where
  pub in_one : (s s2 : SlotView) (at was : ℕ) → IsPutAt s s2 place lead written at was → IsPutIn (s ∷ []) (s2 ∷ []) place lead written at was
  in_one s s2 at was h = record { front = []; slot = s; slot2 = s2; back = []; own = at; old_is = refl; new_is = refl; put = h; at_is = refl }

  pub one_put : {E : Type 0} (s s2 : SlotView) (r : Result (Option (ℕ × ℕ)) E) →
      IfOk r (λ o. IfSome o (λ p. IsPutAt s s2 place lead written p.0 p.1)) →
      IfOk r (λ o. IfSome o (λ p. IsPutIn (s ∷ []) (s2 ∷ []) place lead written p.0 p.1))
  one_put s s2 (Ok None) h = tt
  one_put s s2 (Ok (Some p)) h = in_one s s2 p.0 p.1 h
  one_put s s2 (Err e) h = tt

  pub in_right : (l r r2 : List SlotView) (at moved was : ℕ) → IsPutIn r r2 place lead written at was → moved + olds_of l ≡ at + news_of l → IsPutIn (l ++ r) (l ++ r2) place lead written moved was
  in_right l r r2 at moved was h is = record {
    front = l ++ h.front;
    slot = h.slot;
    slot2 = h.slot2;
    back = h.back;
    own = h.own;
    old_is = ap (λ (x : List SlotView). l ++ x) h.old_is ∙ sym (append_assoc l h.front (h.slot ∷ h.back));
    new_is = ap (λ (x : List SlotView). l ++ x) h.new_is ∙ sym (append_assoc l h.front (h.slot2 ∷ h.back));
    put = h.put;
    at_is = omega (arith, is, h.at_is, olds_append l h.front, news_append l h.front);
  }

  pub counts_put : (l l2 : List SlotView) (at was : ℕ) → IsPutIn l l2 place lead written at was → (olds_of l2 ≡ olds_of l + was) × (news_of l2 ≡ news_of l + (length lead + length written))
  counts_put l l2 at was h = (
    omega (
      arith,
      ap olds_of h.old_is,
      ap olds_of h.new_is,
      olds_append h.front (h.slot ∷ h.back),
      olds_append h.front (h.slot2 ∷ h.back),
      ap (λ (p : SlotPlace). count_of h.slot.new (p.end - p.start)) h.put.place_is,
      ap (λ (p : SlotPlace). count_of h.slot2.new (p.end - p.start)) h.put.same,
      h.put.was_is,
    ),
    omega (
      arith,
      ap news_of h.old_is,
      ap news_of h.new_is,
      news_append h.front (h.slot ∷ h.back),
      news_append h.front (h.slot2 ∷ h.back),
      ap (λ (o : Option (List ℕ)). length (put_or o [])) h.put.new,
      length-append (put_text h.slot) (lead ++ written),
      length-append lead written,
    ),
  )
