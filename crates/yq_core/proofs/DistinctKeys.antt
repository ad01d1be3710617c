-- Keys that differ, as a test and as a fact.
use Rattle.std.proofs.Common.{◌≡◌, ◌≢◌, ℕ, zero, suc, List, [], ◌∷◌, get_or, Bool, true, false, not, sym, ap, ◌∙◌, arith, bytes_eq, ◌↔◌}
use Rattle.std.{proofs.Common.{rules, refl}, specs.Bool.IsTrue, specs.List.{list_any, All}}
use Rattle.std.proofs.lemmas.Bool.{and_parts, and_from, or_parts, false≢true, false_from_ne_true, not-true}
use Rattle.std.{proofs.lemmas.List.Folds.list_any_none, proofs.lemmas.List.Kept.AllPairs-cons, proofs.lemmas.Slice.Eq.bytes_eq-Decides}
use Rattle.yq_core.specs.Keys.{AreDistinct, are_distinct}

pub differ : (a b : List ℕ) → bytes_eq a b ≡ false → a ≢ b
differ a b e is = false≢true (sym e ∙ (bytes_eq-Decides a b).1 is)

pub differs : (a b : List ℕ) → a ≢ b → bytes_eq a b ≡ false
differs a b h = false_from_ne_true (bytes_eq a b) (λ e. h ((bytes_eq-Decides a b).0 e))

none_is : (k : List ℕ) (ks : List (List ℕ)) → list_any (bytes_eq k) ks ≡ false → All (λ b. k ≢ b) ks
none_is k [] e j d within = absurd (omega arith)
none_is k (x ∷ xs) e zero d within = differ k x (or_parts (bytes_eq k x) (list_any (bytes_eq k) xs) e).0
none_is k (x ∷ xs) e (suc j) d within = none_is k xs (or_parts (bytes_eq k x) (list_any (bytes_eq k) xs) e).1 j d (omega arith)

pub distinct_is : (ks : List (List ℕ)) → are_distinct ks ≡ true → AreDistinct ks
distinct_is [] e = λ i j d lt within. absurd (omega arith)
distinct_is (k ∷ ks) e =
    let p = and_parts (not (list_any (bytes_eq k) ks)) (are_distinct ks) e in
    AllPairs-cons (λ a b. a ≢ b) k ks (none_is k ks (not-true (list_any (bytes_eq k) ks) p.0)) (distinct_is ks p.1)

pub is_distinct : (ks : List (List ℕ)) → AreDistinct ks → are_distinct ks ≡ true
is_distinct [] h = refl
is_distinct (k ∷ ks) h =
    let fresh : list_any (bytes_eq k) ks ≡ false = list_any_none (bytes_eq k) ks (λ j d within. differs k (get_or ks j d) (h zero (suc j) d (omega arith) (omega arith))) in
    and_from (not (list_any (bytes_eq k) ks)) (are_distinct ks) (ap not fresh) (is_distinct ks (λ i j d lt within. h (suc i) (suc j) d (omega arith) (omega arith)))

-- what a test of keys tells
pub distinct_agrees : (ks : List (List ℕ)) (b : Bool) → IsTrue b ↔ AreDistinct ks → are_distinct ks ≡ b
distinct_agrees ks b h1 = search (rules, is_distinct, false_from_ne_true, false≢true, distinct_is)
