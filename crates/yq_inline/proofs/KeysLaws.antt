-- Keys of mappings, one in the other.
use Rattle.std.proofs.Common.{◌≡◌, ℕ, zero, suc, ◌≤◌, List, [], ◌∷◌, ◌++◌, drop, length, take, sym, ap, ◌∙◌, arith, ◌↔◌, ◌<◌, Bool, true}
use Rattle.std.{proofs.Common.refl, specs.Bool.IsTrue, proofs.lemmas.List.{drop-append-le, drop_all, length-map, take-append-le, take_all}}
use denote.Bor.{Bor}
use Rattle.yq_core.{specs.Keys.{AreDistinct, are_distinct}, proofs.DistinctKeys.{distinct_is, is_distinct}}
use Rattle.yq_inline.specs.KeyTexts.{key_texts}

-- So many keys in front stay as they were.
pub record KeysStay (n : ℕ) (before ks : List (List ℕ)) : Type 0 where
  pub within : n ≤ length ks
  pub kept : take n ks ≡ before

-- at first
pub all_stay : (n : ℕ) (ks : List (Bor (List ℕ))) → n ≡ length ks → KeysStay n (key_texts ks) (key_texts ks)
all_stay n ks e = record { within = omega (arith, e, length-map ks (λ k. k.now)); kept = take_all n (key_texts ks) (omega (arith, e, length-map ks (λ k. k.now))) }

pub none_own : (n : ℕ) (ks : List (Bor (List ℕ))) → n ≡ length ks → drop n (key_texts ks) ≡ []
none_own n ks e = drop_all n (key_texts ks) (omega (arith, e, length-map ks (λ k. k.now)))

pub first_apart : (n : ℕ) (ks : List (Bor (List ℕ))) (more : List (List ℕ)) → n ≡ length ks → are_distinct (drop n (key_texts ks) ++ more) ≡ true → are_distinct more ≡ true
first_apart n ks more e apart = sym (ap (λ (own : List (List ℕ)). are_distinct (own ++ more)) (none_own n ks e)) ∙ apart

-- with more after them
longer : (n : ℕ) (xs ys : List (List ℕ)) → n ≤ length xs → n ≤ length (xs ++ ys)
longer zero xs ys h = omega arith
longer (suc n) [] ys h = absurd (omega (arith, h))
longer (suc n) (x ∷ xs) ys h = omega (arith, longer n xs ys (omega (arith, h)))

pub more_stay : (n : ℕ) (before old more ks : List (List ℕ)) → KeysStay n before old → ks ≡ old ++ more → KeysStay n before ks
more_stay n before old more ks k e = record {
  within = omega (arith, longer n old more k.within, ap length e);
  kept = ap (take n) e ∙ (take-append-le n old more k.within ∙ k.kept);
}

pub more_own : (n : ℕ) (before old more ks : List (List ℕ)) → KeysStay n before old → ks ≡ old ++ more → drop n ks ≡ drop n old ++ more
more_own n before old more ks k e = ap (drop n) e ∙ drop-append-le n old more k.within

-- what a test of keys tells
pub differ_agrees : (ks : List (List ℕ)) (b : Bool) → b ≡ are_distinct ks → IsTrue b ↔ AreDistinct ks
differ_agrees ks b e = (λ yes. distinct_is ks (sym e ∙ yes), λ h. e ∙ is_distinct ks h)

-- fewer than two keys
pub few_keys : (ks : List (Bor (List ℕ))) → length ks < 2 → true ≡ are_distinct (key_texts ks)
few_keys [] h = refl
few_keys (a ∷ []) h = refl
few_keys (a ∷ b ∷ ks) h = absurd (omega (arith, h))
