-- Keys that differ, as a test.
use Rattle.std.proofs.Common.{rules, ◌≡◌, ◌≢◌, ℕ, zero, suc, not, Bool, true, false, List, [], ◌∷◌, get_or, refl, ap, arith, map, IsTrue}
use Rattle.std.{proofs.Common.◌↔◌, specs.Str.bytes_eq, specs.List.{list_any, All}}
use Rattle.std.proofs.lemmas.Bool.{and_from, not-true, false≢true, false_from_ne_true, and_parts}
use Rattle.std.{proofs.lemmas.List.Folds.{list_any_at, list_any_none}, proofs.lemmas.List.Kept.AllPairs-cons}
use Rattle.std.{proofs.lemmas.Slice.Eq.bytes_eq-Decides, specs.Prelude.{string_bytes, String}, specs.declared.alloc.Global.Global}
use Rattle.yq_core.{specs.Keys.{AreDistinct, are_distinct}, specs.declared.value.Value.Value, specs.Values.field_of}

others : (k : List ℕ) (ks : List (List ℕ)) → list_any (bytes_eq k) ks ≡ false → All (λ x. k ≢ x) ks
others k ks h2 i d lt same = search (rules, bytes_eq-Decides, false≢true, list_any_at)

pub distinct_keys : (ks : List (List ℕ)) → are_distinct ks ≡ true → AreDistinct ks
distinct_keys [] h = λ i j d lt last. absurd (omega arith)
distinct_keys (k ∷ ks) h =
    let parts = and_parts _ (are_distinct ks) h in
    AllPairs-cons (λ a b. a ≢ b) k ks (others k ks (not-true _ parts.0)) (distinct_keys ks parts.1)

pub distinct_again : (ks : List (List ℕ)) → AreDistinct ks → are_distinct ks ≡ true
distinct_again [] h = refl
distinct_again (k ∷ ks) h =
    let fresh : list_any (bytes_eq k) ks ≡ false =
    list_any_none (bytes_eq k) ks (λ j d within. false_from_ne_true _ (λ e.
    h zero (suc j) d (omega arith) (omega arith) ((bytes_eq-Decides k (get_or ks j d)).0 e))) in
    and_from (not (list_any (bytes_eq k) ks)) (are_distinct ks) (ap not fresh)
    (distinct_again ks (λ i j d lt within. h (suc i) (suc j) d (omega arith) (omega arith)))

-- a test that tells whether they differ is that test
pub tested : (b : Bool) (ks : List (List ℕ)) → IsTrue b ↔ AreDistinct ks → b ≡ are_distinct ks
tested b ks h = search (rules, distinct_again, false_from_ne_true, false≢true, distinct_keys)

-- the keys of entries
pub keys_of_fields : (es : List (String Global × Value)) → map (λ e. string_bytes e.0) es ≡ map (λ e. e.0) (map field_of es)
keys_of_fields [] = refl
keys_of_fields (e ∷ es) = ap (λ (ks : List (List ℕ)). string_bytes e.0 ∷ ks) (keys_of_fields es)
