-- The values of ints, as the standard library reads them.
use Rattle.std.proofs.Common.{rules, ⊎_elim, ◌≡◌, ℕ, ◌<◌, ◌≤◌, Bool, true, cond, eqb, List, [], ◌∷◌, Option, Some, None, Result, ℤ, pos}
use Rattle.std.{proofs.Common.{FitsSigned, refl, ap, ◌∙◌, subst, arith, eqb-true}, specs.Result.{OkIff, result_ok}, specs.Char.digit_value}
use Rattle.std.specs.Str.Parse.{IsNumeral, digits_value, ParsesSigned, without_leading_sign, signed_digits_value}
use Rattle.std.proofs.lemmas.Bool.{false≢true, cases_Bool, and_parts, ltb-true, lt-ltb, ne_eqb}
use Rattle.std.{proofs.lemmas.Str.IsCharBoundary-after_ascii, specs.Str.{IsUtf8, IsCharBoundary}, specs.Option.IfSome}
use mir.Syntax.{w64}
use Rattle.yq_core.{specs.Answers.◌>>=◌, specs.Numbers.{signed, is_i64}, specs.Schema.IsIntOf}
use Rattle.yq_core.specs.SchemaReading.{past_sign, sign_of, are_digits, has_base, as_i64, based_value, decimal_value, int_value}
use Rattle.yq_core.{proofs.DigitLaws.{digits_takes, digits_again}, proofs.NumberLaws.{int_takes, int_again}}

pair : {A B : Type 0} {a a' : A} {b b' : B} → a ≡ a' → b ≡ b' → ◌≡◌ {A = A × B} (a, b) (a', b')
pair {a = a} {b' = b'} p q = ap (λ y. (a, y)) q ∙ ap (λ x. (x, b')) p

fits_i64 : (n : ℤ) → is_i64 n ≡ true → FitsSigned w64 n
fits_i64 n h = search (rules, ltb-true)

i64_fits : (n : ℤ) → FitsSigned w64 n → is_i64 n ≡ true
i64_fits n h = search (rules, lt-ltb)

leading_sign : (t : List ℕ) → without_leading_sign t ≡ past_sign t
leading_sign t = search (rules, ⊎_elim, cases_Bool)

leading_value : (t : List ℕ) → signed_digits_value 10 t ≡ signed (sign_of t) (digits_value 10 (past_sign t))
leading_value t = search (rules, ⊎_elim, cases_Bool)

-- what the standard library reads, where its digits are those of the schema
parsed : {E : Type 0} (test : Bool) (n : ℤ) (P : Type 0) (r : Result ℤ E) → (test ≡ true → P) → (P → test ≡ true) → OkIff r (P × FitsSigned w64 n) n → result_ok r ≡ (cond test (Some n) None >>= as_i64)
parsed test n P r to from h = search (rules, ⊎_elim, i64_fits, cases_Bool, fits_i64)

pub decimal_parsed : {E : Type 0} (t : List ℕ) (r : Result ℤ E) → ParsesSigned w64 10 t r → result_ok r ≡ decimal_value t
decimal_parsed t r h =
    let n = signed (sign_of t) (digits_value 10 (past_sign t)) in
    let own : OkIff r (IsNumeral 10 (past_sign t) × FitsSigned w64 n) n =
    subst (λ (x : List ℕ × ℤ). OkIff r (IsNumeral 10 x.0 × FitsSigned w64 x.1) x.1) (pair (leading_sign t) (leading_value t)) h in
    parsed (are_digits 10 (past_sign t)) n (IsNumeral 10 (past_sign t)) r (digits_takes 10 (past_sign t)) (digits_again 10 (past_sign t)) own

-- a digit is no sign
no_sign : (base d : ℕ) (ds : List ℕ) → base ≤ 36 → digit_value d < base → (without_leading_sign (d ∷ ds) ≡ d ∷ ds) × (signed_digits_value base (d ∷ ds) ≡ pos (digits_value base (d ∷ ds)))
no_sign base d ds most h = search (rules, ne_eqb)

pub based_parsed : {E : Type 0} (base : ℕ) (digits : List ℕ) (r : Result ℤ E) → base ≤ 36 → are_digits base digits ≡ true → ParsesSigned w64 base digits r → result_ok r ≡ based_value base digits
based_parsed base [] r most test h = absurd (false≢true test)
based_parsed base (d ∷ ds) r most test h =
    let is = digits_takes base (d ∷ ds) test in
    let own = no_sign base d ds most is.1.0 in
    let n = pos (digits_value base (d ∷ ds)) in
    let same : OkIff r (IsNumeral base (d ∷ ds) × FitsSigned w64 n) n =
    subst (λ (x : List ℕ × ℤ). OkIff r (IsNumeral base x.0 × FitsSigned w64 x.1) x.1) (pair own.0 own.1) h in
    parsed (are_digits base (d ∷ ds)) n (IsNumeral base (d ∷ ds)) r (digits_takes base (d ∷ ds)) (digits_again base (d ∷ ds)) same

-- after `0` and the letter of a base a text may be cut
pub boundary_base : (letter : ℕ) (t : List ℕ) → letter < 128 → IsUtf8 t → has_base letter t ≡ true → IsCharBoundary t 2
boundary_base letter (a ∷ b ∷ bs) low u h =
    let second : b ≡ letter = eqb-true b letter (and_parts (eqb a 48) (eqb b letter) h).1 in
    IsCharBoundary-after_ascii (a ∷ b ∷ bs) 1 u (omega arith) (omega arith)
boundary_base letter _ low u h = absurd (false≢true h)

bind_takes : (x : Option ℤ) (n : ℤ) → (x >>= as_i64) ≡ Some n → x ≡ Some n
bind_takes x n h = search (rules, ⊎_elim, cases_Bool)

taken : (t : List ℕ) (x : Option ℤ) → int_value t ≡ x → IfSome x (λ n. IsIntOf t n)
taken t x h = search (rules, int_takes, bind_takes)

pub value_takes : (t : List ℕ) → IfSome (int_value t) (λ n. IsIntOf t n)
value_takes t = taken t (int_value t) refl

pub value_again : (t : List ℕ) (n : ℤ) → IsIntOf t n → is_i64 n ≡ true → int_value t ≡ Some n
value_again t n is fits = rw (int_again t n is, fits) refl
