-- Digits in front of a text.
use Rattle.std.proofs.Common.{◌≡◌, ℕ, ◌≤◌, true, false, List, [], ◌∷◌, ◌++◌, length, take, refl, ◌∙◌, one-add, inl, inr, rules}
use Rattle.std.{specs.List.prefix_len, specs.Str.Parse.{AllDigits, IsNumeral}}
use Rattle.std.proofs.lemmas.Bool.{false≢true, cases_Bool, ltb-true, lt-ltb}
use Rattle.yq_core.{specs.Text.{is_empty, front}, specs.SchemaReading.{is_digit, past_digits, are_digits, has_base}}

pub has_two : (letter : ℕ) (t : List ℕ) → has_base letter t ≡ true → 2 ≤ length t
has_two letter t h = search rules

pub past_digit : (base b : ℕ) (bs : List ℕ) → is_digit base b ≡ true → past_digits base (b ∷ bs) ≡ past_digits base bs
past_digit base b bs h = rw (h, one-add) refl

pub past_none : (base b : ℕ) (bs : List ℕ) → is_digit base b ≡ false → past_digits base (b ∷ bs) ≡ b ∷ bs
past_none base b bs h = rw h refl

-- the digits that the text begins with
abbrev pub digits_in : ℕ → List ℕ → List ℕ
digits_in base t = take (prefix_len (is_digit base) t) t

pub digits_digit : (base b : ℕ) (bs : List ℕ) → is_digit base b ≡ true → digits_in base (b ∷ bs) ≡ b ∷ digits_in base bs
digits_digit base b bs h = rw (h, one-add) refl

pub digits_none : (base b : ℕ) (bs : List ℕ) → is_digit base b ≡ false → digits_in base (b ∷ bs) ≡ []
digits_none base b bs h = rw h refl

pub digits_cut : (base : ℕ) (t : List ℕ) → t ≡ digits_in base t ++ past_digits base t
digits_cut base [] = refl
digits_cut base (b ∷ bs) = search (rules, cases_Bool, digits_digit, past_digit, digits_none, past_none, digits_cut base bs)

pub digits_all : (base : ℕ) (t : List ℕ) → AllDigits base (digits_in base t)
digits_all base [] = tt
digits_all base (b ∷ bs) = search (rules, cases_Bool, digits_digit, ltb-true, digits_none, digits_all base bs)

-- digits are read up to the first byte that is none
pub past_append : (base : ℕ) (digits rest : List ℕ) → AllDigits base digits → front (is_digit base) rest ≡ false → past_digits base (digits ++ rest) ≡ rest
past_append base [] [] h e = refl
past_append base [] (b ∷ bs) h e = past_none base b bs e
past_append base (d ∷ digits) rest h e = past_digit base d (digits ++ rest) (lt-ltb _ _ h.0) ∙ past_append base digits rest h.1 e

pub past_all : (base : ℕ) (digits : List ℕ) → AllDigits base digits → past_digits base digits ≡ []
past_all base [] h = refl
past_all base (d ∷ digits) h = past_digit base d digits (lt-ltb _ _ h.0) ∙ past_all base digits h.1

all_digits : (base : ℕ) (t : List ℕ) → is_empty (past_digits base t) ≡ true → AllDigits base t
all_digits base [] h = tt
all_digits base (b ∷ bs) h = elim (cases_Bool (is_digit base b)) [
  | inl e ↦ (ltb-true _ _ e, all_digits base bs (rw (past_digit base b bs e) at h))
  | inr e ↦ absurd (false≢true (rw (past_none base b bs e) at h))
]

pub digits_takes : (base : ℕ) (t : List ℕ) → are_digits base t ≡ true → IsNumeral base t
digits_takes base t h = search (rules, false≢true, all_digits)

pub digits_again : (base : ℕ) (t : List ℕ) → IsNumeral base t → are_digits base t ≡ true
digits_again base t h = search (rules, past_all)
