-- The floats of the core schema: what is read is what is written.
use Rattle.std.proofs.Common.{◌≡◌, ℕ, Bool, true, false, eqb, ◌||◌, List, [], ◌∷◌, ◌++◌, refl, sym, ap, ◌∙◌, subst, arith, inl, inr}
use Rattle.std.{proofs.Common.{eqb-true, append_assoc, rules}, specs.Str.Parse.IsNumeral}
use Rattle.std.proofs.lemmas.Bool.{false≢true, cases_Bool, and_parts, or_cases, or_left, or_right, lt-ltb}
use Rattle.yq_core.specs.Numbers.{spell_sign, Mantissa, fraction, whole, pointed, spell_mantissa, IsMantissa, Exponent, absent, lower}
use Rattle.yq_core.{specs.Numbers.{upper, spell_exponent, IsExponent}, specs.Schema.{infinity_words, nan_words, IsFloat}}
use Rattle.yq_core.specs.SchemaReading.{past_digits, past_sign, sign_of, are_digits, is_exponent, front_digit, ends_number, is_number}
use Rattle.yq_core.{specs.SchemaReading.{is_one_of, is_float}, proofs.WordLaws.{word_takes, word_again, word_among}}
use Rattle.yq_core.proofs.DigitLaws.{digits_in, digits_digit, digits_cut, digits_all, past_append, digits_takes, digits_again}
use Rattle.yq_core.proofs.NumberLaws.{not_digit, past_spelled, sign_cut}

-- the text is a mantissa and an exponent
pub record IsUnsigned (t : List ℕ) : Type 0 where
  pub mantissa : Mantissa
  pub exponent : Exponent
  pub spelled : t ≡ spell_mantissa mantissa ++ spell_exponent exponent
  pub is_mantissa : IsMantissa mantissa
  pub is_exponent : IsExponent exponent

exponent_takes : (t : List ℕ) → is_exponent t ≡ true → (e : Exponent) × (t ≡ spell_exponent e) × IsExponent e
exponent_takes [] h = (absent, refl, tt)
exponent_takes (b ∷ bs) h =
    let p = and_parts (eqb b 101 || eqb b 69) (are_digits 10 (past_sign bs)) h in
    let digits = digits_takes 10 (past_sign bs) p.1 in
    elim (or_cases (eqb b 101) (eqb b 69) p.0) [
      | inl e ↦ (lower (sign_of bs) (past_sign bs), rw (← sign_cut bs) (ap (λ a. a ∷ bs) (eqb-true b 101 e)), digits)
      | inr e ↦ (upper (sign_of bs) (past_sign bs), rw (← sign_cut bs) (ap (λ a. a ∷ bs) (eqb-true b 69 e)), digits)
    ]

exponent_again : (e : Exponent) → IsExponent e → is_exponent (spell_exponent e) ≡ true
exponent_again e h1 = search (rules, past_spelled, digits_again)

front_numeral : (t : List ℕ) → front_digit t ≡ true → IsNumeral 10 (digits_in 10 t)
front_numeral t h = search (rules, false≢true, digits_digit, digits_all)

front_empty : (t : List ℕ) → front_digit t ≡ false → digits_in 10 t ≡ []
front_empty t h = search rules

numeral_front : (digits rest : List ℕ) → IsNumeral 10 digits → front_digit (digits ++ rest) ≡ true
numeral_front [] rest h = absurd (omega (arith, h.0))
numeral_front (d ∷ digits) rest h = lt-ltb _ _ h.1.0

-- after the digits before a point
ends_takes : (digits rest : List ℕ) (some : Bool) → (some ≡ true → IsNumeral 10 digits) → (some ≡ false → digits ≡ []) → ends_number some rest ≡ true → IsUnsigned (digits ++ rest)
ends_takes digits [] some full empty h = record {
  mantissa = whole digits;
  exponent = absent;
  spelled = refl;
  is_mantissa = full h;
  is_exponent = tt;
}
ends_takes digits (b ∷ bs) some full empty h = elim (cases_Bool (eqb b 46)) [
  | inl e ↦
      let p = and_parts (some || front_digit bs) (is_exponent (past_digits 10 bs)) (rw e at h) in
      let x = exponent_takes (past_digits 10 bs) p.1 in
      let after : b ∷ bs ≡ 46 ∷ (digits_in 10 bs ++ spell_exponent x.0) = ap (λ a. a ∷ bs) (eqb-true b 46 e) ∙ ap (λ t. 46 ∷ t) (digits_cut 10 bs ∙ ap (λ t. digits_in 10 bs ++ t) x.1) in
      elim (cases_Bool some) [
        | inl has ↦ record {
          mantissa = pointed digits (digits_in 10 bs);
          exponent = x.0;
          spelled = ap (λ t. digits ++ t) after ∙ sym (append_assoc digits (46 ∷ digits_in 10 bs) (spell_exponent x.0));
          is_mantissa = (full has, digits_all 10 bs);
          is_exponent = x.2;
        }
        | inr none ↦ record {
          mantissa = fraction (digits_in 10 bs);
          exponent = x.0;
          spelled = ap (λ d. d ++ (b ∷ bs)) (empty none) ∙ after;
          is_mantissa = front_numeral bs (rw none at p.0);
          is_exponent = x.2;
        }
      ]
  | inr e ↦
      let p = and_parts some (is_exponent (b ∷ bs)) (rw e at h) in
      let x = exponent_takes (b ∷ bs) p.1 in
      record {
        mantissa = whole digits;
        exponent = x.0;
        spelled = ap (λ t. digits ++ t) x.1;
        is_mantissa = full p.0;
        is_exponent = x.2;
      }
]

pub number_takes : (t : List ℕ) → is_number t ≡ true → IsUnsigned t
number_takes t h =
    let took = ends_takes (digits_in 10 t) (past_digits 10 t) (front_digit t) (front_numeral t) (front_empty t) h in
    subst (λ (u : List ℕ). IsUnsigned u) (sym (digits_cut 10 t)) took

pub number_again : (m : Mantissa) (e : Exponent) → IsMantissa m → IsExponent e → is_number (spell_mantissa m ++ spell_exponent e) ≡ true
number_again m e h1 h2 = search (rules, numeral_front, past_append, exponent_again, append_assoc)

no_sign_before : (digits rest : List ℕ) → IsNumeral 10 digits → past_sign (digits ++ rest) ≡ digits ++ rest
no_sign_before [] rest h = absurd (omega (arith, h.0))
no_sign_before (d ∷ ds) rest h = rw (not_digit d 43 h.1.0 refl, not_digit d 45 h.1.0 refl) refl

pub float_takes : (t : List ℕ) → is_float t ≡ true → IsFloat t
unfolding is_float
float_takes t h = elim (or_cases (is_number (past_sign t) || is_one_of infinity_words (past_sign t)) (is_one_of nan_words t) h) [
  | inl a ↦ elim (or_cases (is_number (past_sign t)) (is_one_of infinity_words (past_sign t)) a) [
    | inl b ↦
        let x = number_takes (past_sign t) b in
        inl (record { sign = sign_of t; mantissa = x.mantissa; exponent = x.exponent }, sign_cut t ∙ ap (λ u. spell_sign (sign_of t) ++ u) x.spelled, (x.is_mantissa, x.is_exponent))
    | inr b ↦ inr (inl (sign_of t, past_sign t, sign_cut t, word_takes infinity_words (past_sign t) b))
  ]
  | inr a ↦ inr (inr (word_takes nan_words t a))
]

pub float_again : (t : List ℕ) → IsFloat t → is_float t ≡ true
unfolding is_float
float_again t h1 = search (rules, no_sign_before, append_assoc, or_left, number_again, word_among, or_right, word_again)
