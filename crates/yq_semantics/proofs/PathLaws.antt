-- Steps and paths that are the same, and those that part.
use Rattle.std.proofs.Common.{rules, ◌≡◌, ◌≢◌, ℕ, true, false, List, [], ◌∷◌, ◌++◌, refl, subst, inl, inr, append-nil}
use Rattle.std.{proofs.lemmas.Bool.{ne_eqb, eq-eqb, false_from_ne_true}, specs.Str.bytes_eq, proofs.lemmas.Slice.Eq.bytes_eq-Decides}
use Rattle.yq_core.{specs.Paths.{To, Nth, Step}, specs.PathOrder.{Diverge, Before, Apart}}
use Rattle.yq_semantics.specs.NodeEdits.{same_step}

pub bytes_refl : (k : List ℕ) → bytes_eq k k ≡ true
bytes_refl k = (bytes_eq-Decides k k).1 refl

pub bytes_same : (j k : List ℕ) → bytes_eq j k ≡ true → j ≡ k
bytes_same j k h = (bytes_eq-Decides j k).0 h

pub bytes_differ : (j k : List ℕ) → j ≢ k → bytes_eq j k ≡ false
bytes_differ j k d = false_from_ne_true (bytes_eq j k) (λ e. d (bytes_same j k e))

pub to_nth : (k : List ℕ) (n : ℕ) → To k ≡ Nth n → ⊥
to_nth k n e = cc

pub step_refl : (s : Step) → same_step s s ≡ true
step_refl s = search (rules, bytes_refl, eq-eqb)

pub step_other : (s t : Step) → s ≢ t → same_step s t ≡ false
step_other s t d = search (rules, bytes_differ, ne_eqb)

pub parts_not : (s : Step) → Diverge s s → ⊥
parts_not s h = search rules

pub before_not_in : (p : List Step) → Before p [] → ⊥
before_not_in [] h = h
before_not_in (s ∷ p) h = h

-- after the same step
pub before_under : (s : Step) (p q : List Step) → Before (s ∷ p) (s ∷ q) → Before p q
before_under s p q h = search (rules, q, parts_not)

pub apart_root : (q : List Step) → Apart [] q → ⊥
apart_root q h = search (rules, q, before_not_in)

pub apart_not_in : (s : Step) (p : List Step) → Apart (s ∷ p) [] → ⊥
apart_not_in s p h = search rules

pub before_more : (p q a b : List Step) → Before p q → Before (p ++ a) (q ++ b)
before_more (s ∷ p) (t ∷ q) a b (inl h) = inl h
before_more (s ∷ p) (t ∷ q) a b (inr h) = inr (h.0, before_more p q a b h.1)
before_more _ _ a b h = absurd h

pub before_left : (p q a : List Step) → Before p q → Before (p ++ a) q
before_left p q a h = subst (λ (r : List Step). Before (p ++ a) r) (append-nil q) (before_more p q a [] h)

pub before_in : (p a b : List Step) → Before a b → Before (p ++ a) (p ++ b)
before_in [] a b h = h
before_in (s ∷ p) a b h = inr (refl, before_in p a b h)

pub parts_differ : (s t : Step) → Diverge s t → t ≢ s
parts_differ s t d e = search rules
