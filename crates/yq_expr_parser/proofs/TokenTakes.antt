-- What measuring finds in front is a token.
use Rattle.std.proofs.Common.{◌≡◌, ◌⊎◌, ℕ, suc, ◌+◌, Bool, true, false, cond, ◌&&◌, ◌||◌, ◌==◌, List, [], ◌∷◌, ◌++◌, length, take, drop}
use Rattle.std.{proofs.Common.{Some, refl, sym, ap, ◌∙◌, subst, inl, inr, arith, eqb-true, rules}, proofs.lemmas.List.drop-drop}
use Rattle.std.{proofs.Math.Seq.take-add, proofs.lemmas.Bool.{and_parts, cases_Bool}, proofs.lemmas.Option.same_Some}
use Rattle.std.{specs.Char.is_ascii_digit, specs.List.prefix_len}
use Rattle.yq_core.{specs.Text.front, proofs.Bools.{chosen, guard_then}}
use Rattle.yq_expr_parser.specs.declared.token.TokenForm.{TokenForm}
use Rattle.yq_expr_parser.specs.Lexing.{closing, fraction_len, number_len, dotted, marked, worded, token_measure, token_of}
use Rattle.yq_expr_parser.{proofs.Lexing.begins_is_name, proofs.RunLaws.{form_if, quoted_is, run_front, run_passes, run_stops, string_in}}
use Rattle.yq_semantics.specs.Tokens.{Token, string, step, symbol, foreign, begins_name, is_name_byte, is_keyword, is_mark_character}
use Rattle.yq_semantics.specs.Tokens.{is_mark_before, is_foreign, IsBareName, AreDigits, begins_fraction, IsUnsigned, dot_goes_on}
use Rattle.yq_semantics.specs.Tokens.{begins_equals, IsToken}
use Rattle.yq_expr_parser.specs.declared.token.TokenForm.TheVariants as form

-- ---- what measuring finds is a token

-- the piece of that form and length, and what follows it, are a token and the rest
abbrev pub Token_in : List ℕ → TokenForm × ℕ → Type 0
Token_in t y = IsToken (token_of y.0 (take y.1 t)) (take y.1 t) (drop y.1 t)

pub text_in : (bs : List ℕ) (x : Bool × ℕ) → closing bs ≡ Some x → Token_in (34 ∷ bs) (cond x.0 form.Foreign form.Text, 1 + x.1)
text_in bs x h =
    let n : 1 + x.1 ≡ suc x.1 = omega arith in
    rw n (inl (string_in string x bs _ h (form_if x.0 form.Text (34 ∷ take x.1 bs))))

pub quoted_in : (bs : List ℕ) (x : Bool × ℕ) → closing bs ≡ Some x → Token_in (46 ∷ (34 ∷ bs)) (cond x.0 form.Foreign form.Quoted, 2 + x.1)
quoted_in bs x h =
    let n : 2 + x.1 ≡ suc (suc x.1) = omega arith in
    rw n (inr (inl (34 ∷ take x.1 bs, refl, string_in step x bs _ h (form_if x.0 form.Quoted (46 ∷ (34 ∷ take x.1 bs))))))

pub name_in : (b : ℕ) (bs : List ℕ) → begins_name b ≡ true → IsBareName (take (prefix_len is_name_byte (b ∷ bs)) (b ∷ bs)) (drop (prefix_len is_name_byte (b ∷ bs)) (b ∷ bs))
name_in b bs h = (run_front is_name_byte begins_name b bs h (begins_is_name b h), run_passes is_name_byte (b ∷ bs), run_stops is_name_byte (b ∷ bs))

pub digits_in : (b : ℕ) (bs : List ℕ) → is_ascii_digit b ≡ true → AreDigits (take (prefix_len is_ascii_digit (b ∷ bs)) (b ∷ bs)) (drop (prefix_len is_ascii_digit (b ∷ bs)) (b ∷ bs))
digits_in b bs h = (run_front is_ascii_digit is_ascii_digit b bs h h, run_passes is_ascii_digit (b ∷ bs), run_stops is_ascii_digit (b ∷ bs))

-- a fraction in front, or none
pub fraction_in : (t : List ℕ) → ((begins_fraction t ≡ false) × (fraction_len t ≡ 0)) ⊎ ((d : ℕ) × (ds : List ℕ) × (t ≡ 46 ∷ (d ∷ ds)) × (is_ascii_digit d ≡ true) × (fraction_len t ≡ 1 + prefix_len is_ascii_digit (d ∷ ds)))
fraction_in t = search (rules, cases_Bool, eqb-true, and_parts)

pub with_fraction : (t : List ℕ) (n d : ℕ) (ds : List ℕ) → AreDigits (take n t) (drop n t) → drop n t ≡ 46 ∷ (d ∷ ds) → is_ascii_digit d ≡ true
    → (m : ℕ) → m ≡ prefix_len is_ascii_digit (d ∷ ds) → IsUnsigned (take (n + (1 + m)) t) (drop (n + (1 + m)) t)
with_fraction t n d ds digits point h m is =
    let one : 1 + m ≡ suc m = omega arith in
    let front_is : take (n + (1 + m)) t ≡ take n t ++ 46 ∷ take m (d ∷ ds) = take-add n (1 + m) t ∙ rw (point, one) refl in
    let rest_is : drop (n + (1 + m)) t ≡ drop m (d ∷ ds) = sym (drop-drop (1 + m) n t) ∙ rw (point, one) refl in
    rw (front_is, rest_is) (inr (take n t, take m (d ∷ ds), refl, (digits.0, digits.1, refl), rw is (digits_in d ds h)))

pub unsigned_in : (t : List ℕ) → front is_ascii_digit t ≡ true → IsUnsigned (take (number_len t) t) (drop (number_len t) t)
unsigned_in t h = search (rules, digits_in, fraction_in, with_fraction)

-- ---- measuring finds each token

pub front_some : (p : ℕ → Bool) (t : List ℕ) → front p t ≡ true → (b : ℕ) × (bs : List ℕ) × (t ≡ b ∷ bs) × (p b ≡ true)
front_some p t h = search rules

-- what measuring gives of a piece, and what it is then
abbrev pub Measures : Token → List ℕ → List ℕ → Type 0
Measures t piece rest = (f : TokenForm) × (token_measure (piece ++ rest) ≡ Some (f, length piece)) × (token_of f piece ≡ t)

pub dotted_in : (t : List ℕ) (y : TokenForm × ℕ) → dotted t ≡ Some y → Token_in (46 ∷ t) y
dotted_in [] y h = subst (Token_in (46 ∷ [])) (same_Some _ _ h) (inr (inr (inr (inr (inr (inl (inr (46, refl, refl, refl, refl), refl)))))))
dotted_in (b ∷ bs) y h = elim (chosen (b == 46) h) [
  | inl dot ↦
      let b_is : b ≡ 46 = eqb-true b 46 dot.0 in
      subst (Token_in (46 ∷ (b ∷ bs))) (same_Some _ _ dot.1) (inr (inr (inr (inr (inr (inr (inl (ap (λ (c : ℕ). 46 ∷ (c ∷ [])) b_is), refl)))))))
  | inr on ↦ elim (chosen (b == 34) on.1) [
    | inl quote ↦
        let x = quoted_is form.Quoted 2 (closing bs) y quote.1 in
        let b_is : b ≡ 34 = eqb-true b 34 quote.0 in
        subst (λ (c : ℕ). Token_in (46 ∷ (c ∷ bs)) y) (sym b_is) (subst (Token_in (46 ∷ (34 ∷ bs))) x.2 (quoted_in bs x.0 x.1))
    | inr off ↦ elim (chosen (begins_name b) off.1) [
      | inl name ↦
          let m = prefix_len is_name_byte (b ∷ bs) in
          let n : 1 + m ≡ suc m = omega arith in
          subst (Token_in (46 ∷ (b ∷ bs))) (same_Some _ _ name.1) (rw n (inr (inr (inl (take m (b ∷ bs), refl, name_in b bs name.0, refl)))))
      | inr alone ↦
          let none : (b == 46 || b == 34 || begins_name b) ≡ false = rw (on.0, off.0, alone.0) refl in
          subst (Token_in (46 ∷ (b ∷ bs))) (same_Some _ _ alone.1) (inr (inr (inr (inr (inr (inl (inr (46, refl, refl, refl, none), refl)))))))
    ]
  ]
]

-- a mark of one character is no dot here
pub marked_in : (b : ℕ) (bs : List ℕ) (y : TokenForm × ℕ) → (b == 46) ≡ false → (b == 45 && front is_ascii_digit bs) ≡ false → marked b bs ≡ Some y → Token_in (b ∷ bs) y
marked_in b bs y no_dot no_minus h = elim (chosen (is_mark_before b && front (λ c. c == 61) bs) h) [
  | inl two ↦
      let parts = and_parts (is_mark_before b) (front (λ c. c == 61) bs) two.0 in
      let second = front_some (λ c. c == 61) bs parts.1 in
      let c_is : second.0 ≡ 61 = eqb-true second.0 61 second.3 in
      let piece : take 2 (b ∷ bs) ≡ b ∷ (61 ∷ []) = rw (second.2, c_is) refl in
      subst (Token_in (b ∷ bs)) (same_Some _ _ two.1) (inr (inr (inr (inr (inr (inl (inl (b, piece, parts.0), refl)))))))
  | inr one ↦ elim (chosen (is_mark_character b) one.1) [
    | inl mark ↦
        let none : (b == 46 && dot_goes_on bs) ≡ false = rw no_dot refl in
        subst (Token_in (b ∷ bs)) (same_Some _ _ mark.1) (inr (inr (inr (inr (inr (inl (inr (b, refl, mark.0, one.0, none), refl)))))))
    | inr other ↦
        let g = guard_then (is_foreign b) other.1 in
        let alone : (b == 33 && begins_equals bs) ≡ false = no_equals b bs one.0 in
        subst (Token_in (b ∷ bs)) (same_Some _ _ g.1) (inr (inr (inr (inr (inr (inr (inr (b, refl, g.0, alone, no_minus), refl)))))))
  ]
]
  where
    no_equals : (b : ℕ) (bs : List ℕ) → (is_mark_before b && front (λ c. c == 61) bs) ≡ false → (b == 33 && begins_equals bs) ≡ false
    no_equals b bs k = elim (cases_Bool (b == 33)) [
      | inl is ↦
          let b_is : b ≡ 33 = eqb-true b 33 is in
          let before : is_mark_before b ≡ true = rw b_is refl in
          rw is (rw before at k)
      | inr other ↦ rw other refl
    ]

pub worded_in : (b : ℕ) (bs : List ℕ) (y : TokenForm × ℕ) → (b == 46) ≡ false → (b == 45 && front is_ascii_digit bs) ≡ false → worded (b ∷ bs) ≡ Some y → Token_in (b ∷ bs) y
worded_in b bs y no_dot no_minus h = elim (chosen (begins_name b) h) [
  | inl name ↦
      let w = take (prefix_len is_name_byte (b ∷ bs)) (b ∷ bs) in
      subst (Token_in (b ∷ bs)) (same_Some _ _ name.1) (inr (inr (inr (inr (inl (name_in b bs name.0, form_word (is_keyword w) w))))))
  | inr mark ↦ marked_in b bs y no_dot no_minus mark.1
]
  where
    form_word : (c : Bool) (w : List ℕ) → token_of (cond c form.Symbol form.Foreign) w ≡ cond c (symbol w) foreign
    form_word true w = refl
    form_word false w = refl

pub measure_in : (t : List ℕ) (y : TokenForm × ℕ) → token_measure t ≡ Some y → Token_in t y
unfolding token_measure
measure_in [] y h = cc
measure_in (b ∷ bs) y h = elim (chosen (b == 34) h) [
  | inl quote ↦
      let x = quoted_is form.Text 1 (closing bs) y quote.1 in
      let b_is : b ≡ 34 = eqb-true b 34 quote.0 in
      subst (λ (c : ℕ). Token_in (c ∷ bs) y) (sym b_is) (subst (Token_in (34 ∷ bs)) x.2 (text_in bs x.0 x.1))
  | inr h1 ↦ elim (chosen (b == 46) h1.1) [
    | inl dot ↦
        let b_is : b ≡ 46 = eqb-true b 46 dot.0 in
        subst (λ (c : ℕ). Token_in (c ∷ bs) y) (sym b_is) (dotted_in bs y dot.1)
    | inr h2 ↦ elim (chosen (b == 45 && front is_ascii_digit bs) h2.1) [
      | inl minus ↦
          let parts = and_parts (b == 45) (front is_ascii_digit bs) minus.0 in
          let b_is : b ≡ 45 = eqb-true b 45 parts.0 in
          let n : 1 + number_len bs ≡ suc (number_len bs) = omega arith in
          subst (Token_in (b ∷ bs)) (same_Some _ _ minus.1) (rw n (inr (inr (inr (inl (inr (take (number_len bs) bs, ap (λ (c : ℕ). c ∷ take (number_len bs) bs) b_is, unsigned_in bs parts.1), refl))))))
      | inr h3 ↦ elim (chosen (is_ascii_digit b) h3.1) [
        | inl digit ↦ subst (Token_in (b ∷ bs)) (same_Some _ _ digit.1) (inr (inr (inr (inl (inl (unsigned_in (b ∷ bs) digit.0), refl)))))
        | inr h4 ↦ worded_in b bs y h2.0 h3.0 h4.1
      ]
    ]
  ]
]
