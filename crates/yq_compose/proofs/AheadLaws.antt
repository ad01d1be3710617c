-- What is made of the rows from one on.
use Rattle.std.proofs.Common.{◌≡◌, ℕ, zero, suc, ◌-◌, ◌<◌, ◌≤◌, true, false, ltb, List, [], ◌∷◌, drop, length, slice_index_or, take, Some}
use Rattle.std.{proofs.Common.{None, sym, refl, ap, ◌∙◌, subst, arith, ltb-true, ltb-false, ne_eqb}, proofs.lemmas.Bool.cond-false}
use Rattle.std.{proofs.lemmas.List.take_rest, specs.List.Sorted.IsPartitionPoint}
use Rattle.yq_documents.{specs.Decoded.{Rise, decoded_at}, specs.declared.decoded.Decoded.Decoded}
use Rattle.yq_compose.specs.Ahead.{IsAhead}

pub ahead_all : (ms : List Decoded) → Rise 0 ms → IsAhead ms 0 ms
ahead_all ms r = record { rise = r; same = λ i le. refl }

-- the first of them apart
pub first_apart : {A : Type 0} (ms : List A) (m : A) → 1 ≤ length ms → m ≡ slice_index_or ms 0 m → ms ≡ m ∷ take (length ms - 1) (drop 1 ms)
first_apart [] m some is = absurd (omega (arith, some))
first_apart (y ∷ ys) m some is = ap (λ z. z ∷ ys) (sym is) ∙ ap (λ zs. m ∷ zs) (sym (take_rest (y ∷ ys) 1))

-- over the first of them
pub ahead_next : (all : List Decoded) (n : ℕ) (m : Decoded) (ms : List Decoded) → IsAhead all n (m ∷ ms) → IsAhead all (suc m.row) ms
ahead_next all n m ms a = record {
  rise = a.rise.1;
  same = λ i le. sym (cond-false _ (Some m) (decoded_at i ms) (ne_eqb i m.row (λ e. omega (arith, e, le)))) ∙ a.same i (omega (arith, le, a.rise.0));
}

-- up to a later row
pub ahead_here : (all : List Decoded) (n row : ℕ) (m : Decoded) (ms : List Decoded) → IsAhead all n (m ∷ ms) → n ≤ row → row ≤ m.row → IsAhead all row (m ∷ ms)
ahead_here all n row m ms a le upto = record { rise = (upto, a.rise.1); same = λ i more. a.same i (omega (arith, le, more)) }

-- so of a list of which that is the first one
pub ahead_over : (all : List Decoded) (row : ℕ) (ms : List Decoded) (m : Decoded) → 1 ≤ length ms → m ≡ slice_index_or ms 0 m → m.row < row → (n : ℕ) × (n ≤ row) × IsAhead all n ms →
    (n : ℕ) × (n ≤ row) × IsAhead all n (take (length ms - 1) (drop 1 ms))
ahead_over all row ms m some is less a = (suc m.row, omega (arith, less), ahead_next all a.0 m _ (subst (IsAhead all a.0) (first_apart ms m some is) a.2))

pub ahead_at : (all : List Decoded) (row : ℕ) (ms : List Decoded) (m : Decoded) → 1 ≤ length ms → m ≡ slice_index_or ms 0 m → row ≤ m.row → (n : ℕ) × (n ≤ row) × IsAhead all n ms → IsAhead all row ms
ahead_at all row ms m some is upto a =
    let apart = first_apart ms m some is in
    subst (IsAhead all row) (sym apart) (ahead_here all a.0 row m _ (subst (IsAhead all a.0) apart a.2) a.1 upto)

pub ahead_end : (all : List Decoded) (row : ℕ) (ms : List Decoded) → length ms < 1 → (n : ℕ) × (n ≤ row) × IsAhead all n ms → IsAhead all row ms
ahead_end all row [] none a = record { rise = tt; same = λ i more. a.2.same i (omega (arith, a.1, more)) }
ahead_end all row (m ∷ ms) none a = absurd (omega (arith, none))

-- what a search finds
pub ahead_found : (all : List Decoded) (n : ℕ) (ms : List Decoded) (row at : ℕ) → IsAhead all n ms → n ≤ row → IsPartitionPoint (λ x. ltb x.row row ≡ true) (λ x. ltb x.row row ≡ false) ms at → IsAhead all row (drop at ms)
ahead_found all n [] row zero a le h = record { rise = tt; same = λ i more. a.same i (omega (arith, le, more)) }
ahead_found all n [] row (suc at) a le h = record { rise = tt; same = λ i more. a.same i (omega (arith, le, more)) }
ahead_found all n (m ∷ ms) row zero a le h = let more = ltb-false _ _ (h.1 0 m (omega arith) (omega arith)) in ahead_here all n row m ms a le more
ahead_found all n (m ∷ ms) row (suc at) a le h =
    let less = ltb-true _ _ (h.0 0 m (omega arith) (omega arith)) in
    ahead_found all (suc m.row) ms row at (ahead_next all n m ms a) (omega (arith, less)) ((λ k d low lt. h.0 (suc k) d (omega arith) (omega arith)), (λ k d low lt. h.1 (suc k) d (omega arith) (omega arith)))

-- nothing is made of a row in front of them
none_above : (n : ℕ) (ms : List Decoded) (row : ℕ) → Rise n ms → row < n → None ≡ decoded_at row ms
none_above n [] row r less = refl
none_above n (m ∷ ms) row r less = none_above (suc m.row) ms row r.1 (omega (arith, less, r.0)) ∙ sym (cond-false _ (Some m) (decoded_at row ms) (ne_eqb row m.row (λ e. omega (arith, e, less, r.0))))

-- what is made of the row itself
here_none : (all : List Decoded) (row : ℕ) (m : Decoded) (ms : List Decoded) → IsAhead all row (m ∷ ms) → (m.row ≡ row → ⊥) → None ≡ decoded_at row all
here_none all row m ms a other =
    none_above (suc m.row) ms row a.rise.1 (omega (arith, a.rise.0)) ∙ (sym (cond-false _ (Some m) (decoded_at row ms) (ne_eqb row m.row (λ e. other (sym e)))) ∙ a.same row (omega arith))

pub here_other : (all : List Decoded) (row : ℕ) (ms : List Decoded) (m : Decoded) → 1 ≤ length ms → m ≡ slice_index_or ms 0 m → (m.row ≡ row → ⊥) → IsAhead all row ms → None ≡ decoded_at row all
here_other all row ms m some is other a = here_none all row m _ (subst (IsAhead all row) (first_apart ms m some is) a) other
