-- What a search finds among what is made of rows.
use Rattle.std.proofs.Common.{rules, ◌≡◌, ℕ, zero, suc, ◌<◌, ◌≤◌, true, false, ltb, List, [], ◌∷◌, length, slice_index_or, Some, None, sym}
use Rattle.std.{proofs.Common.{refl, ◌∙◌, arith, ltb-true, ltb-false, ne_eqb}, proofs.lemmas.Bool.{cond-false, cond-true}}
use Rattle.std.{proofs.lemmas.Option.same_Some, specs.List.slice_get, specs.List.Sorted.{IsNonDecreasingBy, IsPartitionPoint}}
use Rattle.yq_documents.{specs.Decoded.{Rise, decoded_at}, specs.declared.decoded.Decoded.Decoded}

-- their rows rise
rise_above : (n : ℕ) (ms : List Decoded) (j : ℕ) (d : Decoded) → Rise n ms → j < length ms → n ≤ (slice_index_or ms j d).row
rise_above n [] j d r lt = absurd (omega arith)
rise_above n (m ∷ ms) zero d r lt = r.0
rise_above n (m ∷ ms) (suc j) d r lt = let above = rise_above (suc m.row) ms j d r.1 (omega arith) in omega (arith, above, r.0)

pub rises : (n : ℕ) (ms : List Decoded) → Rise n ms → IsNonDecreasingBy (λ m. m.row) ms
rises n (m ∷ ms) r zero zero d le lt = omega arith
rises n (m ∷ ms) r zero (suc j) d le lt = let above = rise_above (suc m.row) ms j d r.1 (omega arith) in omega (arith, above)
rises n (m ∷ ms) r (suc i) (suc j) d le lt = rises (suc m.row) ms r.1 i j d (omega arith) (omega arith)
rises n _ r _ _ d le lt = absurd (omega arith)

-- nothing is made of a row in front of them
none_above : (n : ℕ) (ms : List Decoded) (row : ℕ) → Rise n ms → row < n → None ≡ decoded_at row ms
none_above n [] row r less = refl
none_above n (m ∷ ms) row r less = none_above (suc m.row) ms row r.1 (omega (arith, less, r.0)) ∙ sym (cond-false _ (Some m) (decoded_at row ms) (ne_eqb row m.row (λ e. omega (arith, e, less, r.0))))

-- what is where the search ends is made of the row, or nothing is
pub decoded_found : (ms : List Decoded) (row at : ℕ) (m : Decoded) → IsPartitionPoint (λ x. ltb x.row row ≡ true) (λ x. ltb x.row row ≡ false) ms at → slice_get ms at ≡ Some m → m.row ≡ row → Some m ≡ decoded_at row ms
decoded_found [] row at m h e is = absurd (cc)
decoded_found (x ∷ ms) row zero m h e is = search (rules, same_Some, cond-true)
decoded_found (x ∷ ms) row (suc at) m h e is =
    let less = ltb-true _ _ (h.0 0 x (omega arith) (omega arith)) in
    decoded_found ms row at m ((λ k d low lt. h.0 (suc k) d (omega arith) (omega arith)), (λ k d low lt. h.1 (suc k) d (omega arith) (omega arith))) e is
    ∙ sym (cond-false _ (Some x) (decoded_at row ms) (ne_eqb row x.row (λ q. omega (arith, q, less))))

pub decoded_none : (n : ℕ) (ms : List Decoded) (row at : ℕ) → Rise n ms →
    IsPartitionPoint (λ x. ltb x.row row ≡ true) (λ x. ltb x.row row ≡ false) ms at → ((m : Decoded) → slice_get ms at ≡ Some m → m.row ≡ row → ⊥) →
    None ≡ decoded_at row ms
decoded_none n [] row at r h other = refl
decoded_none n (x ∷ ms) row zero r h other =
    let more = ltb-false _ _ (h.1 0 x (omega arith) (omega arith)) in
    let not : x.row ≡ row → ⊥ = other x refl in
    none_above (suc x.row) ms row r.1 (omega (arith, more)) ∙ sym (cond-false _ (Some x) (decoded_at row ms) (ne_eqb row x.row (λ q. not (sym q))))
decoded_none n (x ∷ ms) row (suc at) r h other =
    let less = ltb-true _ _ (h.0 0 x (omega arith) (omega arith)) in
    decoded_none (suc x.row) ms row at r.1 ((λ k d low lt. h.0 (suc k) d (omega arith) (omega arith)), (λ k d low lt. h.1 (suc k) d (omega arith) (omega arith))) other
    ∙ sym (cond-false _ (Some x) (decoded_at row ms) (ne_eqb row x.row (λ q. omega (arith, q, less))))
