-- A run of a list is replaced by one element, by turning the list.
use Rattle.std.proofs.Common.{rules, ◌≡◌, ℕ, suc, ◌+◌, ◌-◌, ◌≤◌, ◌<◌, List, [], ◌∷◌, ◌++◌, length, take, drop, set, sym, ap, ◌∙◌, arith}
use Rattle.std.{proofs.Common.{append_assoc, length-drop}, proofs.Math.Seq.{drop-append_seam, take-append_seam}}
use Rattle.std.{proofs.lemmas.Grind.common_steps, proofs.lemmas.List.take-take}
use Prim.Native.Nat.{zero}

take_seam : {A : Type 0} (xs ys : List A) (n : ℕ) → n ≡ length xs → take n (xs ++ ys) ≡ xs
take_seam xs ys n is = ap (λ m. take m (xs ++ ys)) is ∙ take-append_seam xs ys

drop_seam : {A : Type 0} (xs ys : List A) (n : ℕ) → n ≡ length xs → drop n (xs ++ ys) ≡ ys
drop_seam xs ys n is = ap (λ m. drop m (xs ++ ys)) is ∙ drop-append_seam xs ys

take_over : {A : Type 0} (xs ys : List A) (n m : ℕ) → n ≡ length xs → take (n + m) (xs ++ ys) ≡ xs ++ take m ys
take_over [] ys n m is = let none : n + m ≡ m = omega (arith, is) in ap (λ k. take k ys) none
take_over (x ∷ xs) ys zero m is = absurd (omega (arith, is))
take_over (x ∷ xs) ys (suc n) m is = let more : suc n + m ≡ suc (n + m) = omega arith in ap (λ k. take k (x ∷ (xs ++ ys))) more ∙ ap (λ l. x ∷ l) (take_over xs ys n m (omega (arith, is)))

-- the list from a place on, then up to it, cut after an element before that place, and turned back
pub turned : {A : Type 0} (xs : List A) (i e k : ℕ) (y : A) → i < e → e ≤ length xs → k ≡ length xs - e
    → drop k (take (k + i + 1) (drop e (set xs i y) ++ take e (set xs i y))) ++ take k (take (k + i + 1) (drop e (set xs i y) ++ take e (set xs i y)))
    ≡ take i xs ++ (y ∷ drop e xs)
turned xs i e k y run within is =
    let after : drop e (set xs i y) ≡ drop e xs = grind (arith, common_steps) in
    let front : take (i + 1) (set xs i y) ≡ take i xs ++ y ∷ [] = grind (arith, common_steps) in
    let long : k ≡ length (drop e xs) = is ∙ sym (length-drop e xs) in
    let after_more : k + i + 1 ≡ k + (i + 1) = omega arith in
    search (rules, take_over, take-take, drop_seam, take_seam, append_assoc)
