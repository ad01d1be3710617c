-- What is asked of each of a list, one after the other.
use Rattle.std.proofs.Common.{◌≡◌, ℕ, ◌+◌, ◌≤◌, Bool, true, false, ◌&&◌, List, length, drop, Some, sym, ap, ◌∙◌}
use Rattle.std.{proofs.lemmas.List.drop_all, specs.List.{list_all, slice_get}}
use Rattle.yq_outline.proofs.EndsLaws.{drop_at}

module _ {A : Type 0} (f : A → Bool) (xs : List A) (i : ℕ) (all : Bool) (so_far : list_all f (drop i xs) ≡ all) where
  next : (x : A) (b : Bool) → slice_get xs i ≡ Some x → f x ≡ b → list_all f (drop i xs) ≡ (b && list_all f (drop (i + 1) xs))
  next x b is e = ap (list_all f) (drop_at xs i x is) ∙ ap (λ y. y && list_all f (drop (i + 1) xs)) e

  pub all_step : (x : A) → slice_get xs i ≡ Some x → f x ≡ true → list_all f (drop (i + 1) xs) ≡ all
  all_step x is e = sym (next x true is e) ∙ so_far

  pub all_fails : (x : A) → slice_get xs i ≡ Some x → f x ≡ false → all ≡ false
  all_fails x is e = sym so_far ∙ next x false is e

  pub all_done : length xs ≤ i → all ≡ true
  all_done past = sym so_far ∙ ap (list_all f) (drop_all i xs past)
