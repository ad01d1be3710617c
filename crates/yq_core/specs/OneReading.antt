-- A form of text: its pieces, their text before a rest, what may be a piece before a rest, and how it is read (own).
use Rattle.std.specs.Prelude.{◌≡◌, ℕ, List, Option, Some}

-- what is read is a piece before its rest (own)
abbrev pub ReadsOnly : {A : Type 0} → (List ℕ → Option (A × List ℕ)) → (A → List ℕ → List ℕ) → (A → List ℕ → Type 0) → Type 0
ReadsOnly {A} read print Is = (t : List ℕ) (x : A × List ℕ) → read t ≡ Some x → (t ≡ print x.0 x.1) × Is x.0 x.1

-- what is a piece before a rest is read (own)
abbrev pub ReadsAgain : {A : Type 0} → (List ℕ → Option (A × List ℕ)) → (A → List ℕ → List ℕ) → (A → List ℕ → Type 0) → Type 0
ReadsAgain {A} read print Is = (p : A) (rest : List ℕ) → Is p rest → read (print p rest) ≡ Some (p, rest)

-- a text begins with one piece at most (own)
abbrev pub HasOneReading : {A : Type 0} → (A → List ℕ → List ℕ) → (A → List ℕ → Type 0) → Type 0
HasOneReading {A} print Is =
    (p q : A) (rest other : List ℕ) → print p rest ≡ print q other → Is p rest → Is q other → (p ≡ q) × (rest ≡ other)
