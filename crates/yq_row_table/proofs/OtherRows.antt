-- Rows that are no word rows, where one row more is read.
use Rattle.std.proofs.Common.{◌≡◌, ◌⊎◌, inl, inr, ℕ, zero, suc, ◌<◌, ◌≤◌, Bool, true, List, [], ◌∷◌, ◌++◌, length, if◌then◌else◌, Some}
use Rattle.std.{proofs.Common.{append-nil, false, refl, sym, ap, ◌∙◌, subst, arith}, proofs.lemmas.Bool.cases_lt}
use Rattle.std.{proofs.lemmas.List.length_push, proofs.lemmas.Option.same_Some, specs.List.slice_get}
use Rattle.yq_row_table.{specs.View.Slices, specs.WordRows.{AreOtherRows, AreWordRows, KnowsHead, KnowsRow, is_word_row}}
use Rattle.yq_row_table.specs.declared.rows.Other.{Other}

one_more : (rows : List Slices) (s : Slices) (n : ℕ) → n < length rows → slice_get (rows ++ s ∷ []) n ≡ slice_get rows n
one_more [] s n less = absurd (omega (arith, less))
one_more (x ∷ rows) s zero less = refl
one_more (x ∷ rows) s (suc n) less = one_more rows s n (omega (arith, less))

last_one : (rows : List Slices) (s : Slices) → slice_get (rows ++ s ∷ []) (length rows) ≡ Some s
last_one [] s = refl
last_one (x ∷ rows) s = last_one rows s

module _ (rows : List Slices) (s : Slices) where
  words_more : (i j : ℕ) → j ≤ length rows → AreWordRows rows i j → AreWordRows (rows ++ s ∷ []) i j
  words_more i j le h n x from to is = h n x from to (sym (one_more rows s n (omega (arith, to, le))) ∙ is)

  words_last : (i : ℕ) → is_word_row s ≡ true → AreWordRows rows i (length rows) → AreWordRows (rows ++ s ∷ []) i (length (rows ++ s ∷ []))
  words_last i word h n x from to is = go (cases_lt n (length rows))
    where
      go : (n < length rows) ⊎ (length rows ≤ n) → is_word_row x ≡ true
      go (inl less) = h n x from less (sym (one_more rows s n less) ∙ is)
      go (inr past) =
          let here : length rows ≡ n = omega (arith, past, to, length_push rows s) in
          let own : s ≡ x = same_Some _ _ (sym (last_one rows s) ∙ (ap (slice_get (rows ++ s ∷ [])) here ∙ is)) in
          ap is_word_row (sym own) ∙ word

  knows_more : (o : Other) → o.row < length rows → KnowsRow rows o → KnowsRow (rows ++ s ∷ []) o
  knows_more o less h x is = h x (sym (one_more rows s o.row less) ∙ is)

  knows_last : (d : ℕ) → KnowsHead d s.head → KnowsRow (rows ++ s ∷ []) (record { row = length rows; depth = d })
  knows_last d h x is = subst (λ (y : Slices). KnowsHead d y.head) (same_Some _ _ (sym (last_one rows s) ∙ is)) h

  others_word : (i : ℕ) (os : List Other) → is_word_row s ≡ true → AreOtherRows rows i os → AreOtherRows (rows ++ s ∷ []) i os
  others_word i [] word h = words_last i word h
  others_word i (o ∷ os) word h = (h.0, omega (arith, h.1, length_push rows s), words_more i o.row (omega (arith, h.1)) h.2, knows_more o h.1 h.3, others_word (suc o.row) os word h.4)

  others_other : (i d : ℕ) (os : List Other) → KnowsHead d s.head → i ≤ length rows → AreOtherRows rows i os → AreOtherRows (rows ++ s ∷ []) i (os ++ record { row = length rows; depth = d } ∷ [])
  others_other i d [] k le h = (le, omega (arith, length_push rows s), words_more i (length rows) (omega arith) h, knows_last d k, λ n x from to is. absurd (omega (arith, from, to, length_push rows s)))
  others_other i d (o ∷ os) k le h = (h.0, omega (arith, h.1, length_push rows s), words_more i o.row (omega (arith, h.1)) h.2, knows_more o h.1 h.3, others_other (suc o.row) d os k (omega (arith, h.1)) h.4)

-- one row more, which is noted where it is no word row
pub others_push : (rows new : List Slices) (s : Slices) (os more : List Other) (at d : ℕ) (is_word : Bool) → new ≡ rows ++ s ∷ [] → at ≡ length rows → (is_word ≡ true → is_word_row s ≡ true) → KnowsHead d s.head →
    more ≡ os ++ (if is_word then [] else record { row = at; depth = d } ∷ []) → AreOtherRows rows 0 os → AreOtherRows new 0 more
others_push rows new s os more at d true pushed here word known added h =
    subst (λ (x : List Slices × List Other). AreOtherRows x.0 0 x.1) (λ j. (sym pushed j, sym (added ∙ append-nil os) j)) (others_word rows s 0 os (word refl) h)
others_push rows new s os more at d false pushed here word known added h =
    subst (λ (x : List Slices × List Other). AreOtherRows x.0 0 x.1) (λ j. (sym pushed j, sym (added ∙ ap (λ (n : ℕ). os ++ record { row = n; depth = d } ∷ []) here) j)) (others_other rows s 0 d os known (omega arith) h)
