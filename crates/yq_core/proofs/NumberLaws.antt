-- The ints of the core schema: what is read is what is written.
use Rattle.std.proofs.Common.{◌≡◌, ℕ, ◌<◌, true, false, eqb, ltb, List, ◌∷◌, ◌++◌, drop, Some, None, is_some, ℤ, pos, sym, ◌∙◌, subst, inl}
use Rattle.std.{proofs.Common.{inr, eqb-true, rules}, specs.Char.digit_value, specs.Str.Parse.{IsNumeral, digits_value}}
use Rattle.std.proofs.lemmas.Bool.{false≢true, cases_Bool, and_parts, and_right, ne_eqb, lt-ltb}
use Rattle.yq_core.{specs.Numbers.{Sign, spell_sign, decimal, octal, hexadecimal, signed}, specs.Schema.IsIntOf}
use Rattle.yq_core.specs.SchemaReading.{has_base, past_sign, sign_of, are_digits, based_number, decimal_number, int_number, is_int}
use Rattle.yq_core.proofs.DigitLaws.{digits_takes, digits_again}

-- a decimal digit is no byte that isn't one
pub not_digit : (b k : ℕ) → digit_value b < 10 → ltb (digit_value k) 10 ≡ false → eqb b k ≡ false
not_digit b k h e = ne_eqb b k (λ p. let q : ltb (digit_value k) 10 ≡ true = lt-ltb _ _ (subst (λ (x : ℕ). digit_value x < 10) p h) in absurd (false≢true (sym e ∙ q)))

-- a base in front is `0` and its letter
base_cut : (letter : ℕ) (t : List ℕ) → has_base letter t ≡ true → t ≡ 48 ∷ letter ∷ drop 2 t
base_cut letter t h1 = search (rules, false≢true, and_parts, eqb-true)

pub past_spelled : (sign : Sign) (digits : List ℕ) → IsNumeral 10 digits → past_sign (spell_sign sign ++ digits) ≡ digits
past_spelled sign digits h1 = search rules

-- a text is its sign and what is after it
pub sign_cut : (t : List ℕ) → t ≡ spell_sign (sign_of t) ++ past_sign t
sign_cut t = search (rules, cases_Bool, eqb-true)

decimal_takes : (t : List ℕ) (n : ℤ) → decimal_number t ≡ Some n → IsIntOf t n
decimal_takes t n h = elim (cases_Bool (are_digits 10 (past_sign t))) [
  | inl e ↦ (decimal (sign_of t) (past_sign t), sign_cut t, digits_takes 10 (past_sign t) e, let g : Some (signed (sign_of t) (digits_value 10 (past_sign t))) ≡ Some n = (rw e at h) in cc)
  | inr e ↦ let g : None ≡ Some n = (rw e at h) in cc
]

based_takes : (base : ℕ) (digits : List ℕ) (n : ℤ) → based_number base digits ≡ Some n → IsNumeral base digits × (n ≡ pos (digits_value base digits))
based_takes base digits n h = search (rules, cases_Bool, digits_takes, pos)

pub int_takes : (t : List ℕ) (n : ℤ) → int_number t ≡ Some n → IsIntOf t n
unfolding int_number
int_takes t n h = elim (cases_Bool (has_base 111 t)) [
  | inl e ↦ let g = based_takes 8 (drop 2 t) n (rw e at h) in (octal (drop 2 t), base_cut 111 t e, g.0, g.1)
  | inr e ↦ let h2 = (rw e at h) in elim (cases_Bool (has_base 120 t)) [
    | inl f ↦ let g = based_takes 16 (drop 2 t) n (rw f at h2) in (hexadecimal (drop 2 t), base_cut 120 t f, g.0, g.1)
    | inr f ↦ decimal_takes t n (rw f at h2)
  ]
]

pub int_again : (t : List ℕ) (n : ℤ) → IsIntOf t n → int_number t ≡ Some n
unfolding int_number
int_again t n (i, spelled, is, value) = search (rules, and_right, not_digit, past_spelled, digits_again)

-- the test says whether there is a number
pub int_has_number : (t : List ℕ) → is_int t ≡ is_some (int_number t)
unfolding int_number is_int
int_has_number t = search (rules, cases_Bool)
