-- Tests, options and the steps of readers.
use Rattle.std.proofs.Common.{◌≡◌, ◌⊎◌, ℕ, ◌+◌, ◌<◌, Bool, true, false, cond, ◌||◌, not, eqb, Option, Some, None, sym, ap, ◌∙◌, arith}
use Rattle.std.{proofs.Common.{eqb-true, rules}, proofs.lemmas.Bool.{false≢true, false_from_ne_true}}
use Rattle.yq_core.specs.Answers.{◌>>=◌, more}

-- which way a test went
pub chosen : {A : Type 0} {x y z : A} (b : Bool) → cond b x y ≡ z → ((b ≡ true) × (x ≡ z)) ⊎ ((b ≡ false) × (y ≡ z))
chosen b h = search rules

pub guard_then : {A : Type 0} {x : Option A} {y : A} (b : Bool) → cond b x None ≡ Some y → (b ≡ true) × (x ≡ Some y)
guard_then b h = search rules

pub bind_some : {A B : Type 0} {f : A → Option B} {y : B} (r : Option A) → (r >>= f) ≡ Some y → (x : A) × (r ≡ Some x) × (f x ≡ Some y)
bind_some r h = search rules

pub more_more : (n k : ℕ) (o : Option ℕ) → more (n + k) o ≡ more n (more k o)
more_more n k o = search rules

pub more_none : (o : Option ℕ) → more 0 o ≡ o
more_none o = search rules

pub more_zero : (n : ℕ) → more n (Some 0) ≡ Some n
more_zero n = ap Some (omega arith)

pub more_some : (n k : ℕ) (o : Option ℕ) → more n o ≡ Some k → (j : ℕ) × (o ≡ Some j) × (n + j ≡ k)
more_some n k o h = search rules

-- a byte that passes a test is none that fails it
pub at_byte : (test : ℕ → Bool) (b k : ℕ) → test b ≡ true → test k ≡ false → eqb b k ≡ false
at_byte test b k here there = false_from_ne_true (eqb b k) (λ e. let same : b ≡ k = eqb-true b k e in false≢true (sym there ∙ (ap test (sym same) ∙ here)))

pub not_byte : (b k : ℕ) → k < b → eqb b k ≡ false
not_byte b k lt = false_from_ne_true (eqb b k) (λ e. let same : b ≡ k = eqb-true b k e in absurd (omega (arith, same)))

pub none_of : (a b c : Bool) → not (a || b || c) ≡ true → (a ≡ false) × (b ≡ false) × (c ≡ false)
none_of a b c h1 = search (rules, false≢true)

pub ruleset more_steps = (more_more, more_none, more_zero)
