-- Texts that are one of some words.
use Rattle.std.{proofs.Common.{◌≡◌, ℕ, Bool, true, false, List, [], ◌∷◌, sym, subst, inl, inr, bytes_eq}, specs.List.list_any}
use Rattle.std.{proofs.lemmas.Bool.{false≢true, or_cases, or_left, or_right, or_parts}, proofs.lemmas.Slice.Eq.bytes_eq-Decides}
use Rattle.yq_core.{specs.Schema.IsOneOf, specs.SchemaReading.is_one_of}

pub word_takes : (words : List (List ℕ)) (t : List ℕ) → is_one_of words t ≡ true → IsOneOf words t
word_takes [] t h = absurd (false≢true h)
word_takes (word ∷ words) t h = elim (or_cases (bytes_eq t word) (is_one_of words t) h) [
  | inl e ↦ inl ((bytes_eq-Decides t word).0 e)
  | inr e ↦ inr (word_takes words t e)
]

pub word_again : (words : List (List ℕ)) (t : List ℕ) → IsOneOf words t → is_one_of words t ≡ true
word_again [] t h = absurd h
word_again (word ∷ words) t (inl e) = or_left (bytes_eq t word) (is_one_of words t) ((bytes_eq-Decides t word).1 e)
word_again (word ∷ words) t (inr e) = or_right (bytes_eq t word) (is_one_of words t) (word_again words t e)

-- the fact holds of each word
abbrev pub Every : (List ℕ → Type 0) → List (List ℕ) → Type 0
Every P [] = Unit {0}
Every P (word ∷ words) = P word × (Every P words)

-- what holds of each word holds of the text
pub word_among : (P : List ℕ → Type 0) (words : List (List ℕ)) (t : List ℕ) → Every P words → IsOneOf words t → P t
word_among P [] t each h = absurd h
word_among P (word ∷ words) t each (inl e) = subst P (sym e) each.0
word_among P (word ∷ words) t each (inr e) = word_among P words t each.1 e

-- a test that fails at each word fails at the text
pub word_fails : (test : List ℕ → Bool) (words : List (List ℕ)) (t : List ℕ) → list_any test words ≡ false → IsOneOf words t → test t ≡ false
word_fails test [] t none h = absurd h
word_fails test (word ∷ words) t none (inl e) = subst (λ (w : List ℕ). test w ≡ false) (sym e) (or_parts (test word) (list_any test words) none).0
word_fails test (word ∷ words) t none (inr e) = word_fails test words t (or_parts (test word) (list_any test words) none).1 e
