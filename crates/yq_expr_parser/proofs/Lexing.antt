-- Where tokens end, and that the tokens of a text are those in front and those of what follows.
use Rattle.std.proofs.Common.{◌≡◌, ◌⊎◌, ℕ, suc, ◌+◌, ◌<◌, ◌≤◌, Bool, true, false, cond, ◌&&◌, ◌==◌, List, [], ◌∷◌, length, take, drop}
use Rattle.std.proofs.Common.{get_or, Option, Some, is_some, refl, sym, ap, ◌∙◌, subst, inl, inr, arith, add-one, eqb-true, length-drop}
use Rattle.std.{proofs.Common.rules, proofs.lemmas.Bool.{and_parts, cases_Bool}, proofs.lemmas.List.get_or-drop}
use Rattle.std.{proofs.lemmas.List.Sums.{prefix_len_passes, prefix_len-le-length}, proofs.lemmas.Option.same_Some}
use Rattle.std.{proofs.lemmas.Str.IsCharBoundary-after_ascii, specs.Char.is_ascii_digit, specs.List.prefix_len}
use Rattle.std.specs.Str.{IsUtf8, IsCharBoundary}
use Rattle.yq_core.{specs.Text.front, proofs.Boundaries.boundary_unless, proofs.Upto.upto_unless, proofs.Bools.{chosen, guard_then}}
use Rattle.yq_semantics.specs.Tokens.{Token, is_token_blank, begins_name, is_name_byte, is_keyword, is_mark_character, escaped_character}
use Rattle.yq_expr_parser.specs.Lexing.{beyond, closing, escaping, quoted, fraction_len, number_len, dotted, marked, worded, token_measure}
use Rattle.yq_expr_parser.{specs.Lexing.{front_token, next_token, ahead, tokens_in, tokens}, specs.declared.token.TokenForm.TokenForm}
use Rattle.yq_expr_parser.specs.declared.token.TokenForm.TheVariants as form

pub blank_ascii : (b : ℕ) → is_token_blank b ≡ true → b < 128
blank_ascii b h = grind arith

pub boundary_blank : (t : List ℕ) (n : ℕ) → n ≡ prefix_len is_token_blank t → IsUtf8 t → IsCharBoundary t n
boundary_blank t n e u = rw e (rw (← upto_unless) (boundary_unless is_token_blank t u blank_ascii))

-- a length of at least 1, after an ASCII byte of the text
abbrev pub EndsAscii : List ℕ → ℕ → Type 0
EndsAscii t n = (k : ℕ) × (n ≡ suc k) × (k < length t) × (get_or t k 0 < 128)

one_row_later : (b : ℕ) (t : List ℕ) (n : ℕ) → EndsAscii t n → EndsAscii (b ∷ t) (1 + n)
one_row_later b t n h = (suc h.0, omega (arith, h.1), omega (arith, h.2), h.3)

-- the length in an answer
len_is : {A : Type 0} (x y : A × ℕ) → Some x ≡ Some y → x.1 ≡ y.1
len_is x y h = let e : x ≡ y = cc in ap (λ p. p.1) e

beyond_some : (o : Bool) (m : ℕ) (r : Option (Bool × ℕ)) (y : Bool × ℕ) → beyond o m r ≡ Some y → (x : Bool × ℕ) × (r ≡ Some x) × (m + x.1 ≡ y.1)
beyond_some o m r y h = search rules

ends_here : (b : ℕ) (t : List ℕ) (n : ℕ) → b < 128 → 1 ≡ n → EndsAscii (b ∷ t) n
ends_here b t n low e = (0, omega arith, omega arith, low)

-- so many bytes further
following_ends : (b : ℕ) (t : List ℕ) (m n : ℕ) → EndsAscii t m → 1 + m ≡ n → EndsAscii (b ∷ t) n
following_ends b t m n h e = rw (← e) (one_row_later b t m h)

following_ends_two : (c b : ℕ) (t : List ℕ) (m n : ℕ) → EndsAscii t m → 2 + m ≡ n → EndsAscii (c ∷ b ∷ t) n
following_ends_two c b t m n h e = following_ends c (b ∷ t) (1 + m) n (one_row_later b t m h) (omega arith)

mutual
  unfolding closing escaping

  closing_ends : (t : List ℕ) (y : Bool × ℕ) → closing t ≡ Some y → EndsAscii t y.1
  closing_ends [] y h = cc
  closing_ends (b ∷ bs) y h = elim (chosen (b == 34) h) [
    | inl here ↦ ends_here b bs y.1 (omega (arith, add-one, eqb-true b 34 here.0)) (len_is (false, 1) y here.1)
    | inr on ↦ elim (chosen (b == 92) on.1) [
      | inl back ↦ escaping_ends b bs y back.1
      | inr plain ↦
          let x = beyond_some false 1 (closing bs) y plain.1 in
          following_ends b bs x.0.1 y.1 (closing_ends bs x.0 x.1) x.2
    ]
  ]

  escaping_ends : (c : ℕ) (t : List ℕ) (y : Bool × ℕ) → escaping t ≡ Some y → EndsAscii (c ∷ t) y.1
  escaping_ends c [] y h = cc
  escaping_ends c (b ∷ bs) y h = elim (chosen (b == 40) h) [
    | inl here ↦
        let x = beyond_some true 2 (closing bs) y here.1 in
        following_ends_two c b bs x.0.1 y.1 (closing_ends bs x.0 x.1) x.2
    | inr on ↦
        let g = guard_then (is_some (escaped_character b)) on.1 in
        let x = beyond_some false 2 (closing bs) y g.1 in
        following_ends_two c b bs x.0.1 y.1 (closing_ends bs x.0 x.1) x.2
  ]

quoted_ends : (f : TokenForm) (m : ℕ) (r : Option (Bool × ℕ)) (y : TokenForm × ℕ) → quoted f m r ≡ Some y → (x : Bool × ℕ) × (r ≡ Some x) × (m + x.1 ≡ y.1)
quoted_ends f m r y h = search rules

-- a run of ASCII bytes, not empty
run_ends : (p : ℕ → Bool) (b : ℕ) (bs : List ℕ) → ((x : ℕ) → p x ≡ true → x < 128) → p b ≡ true → EndsAscii (b ∷ bs) (prefix_len p (b ∷ bs))
run_ends p b bs ascii h =
    let n = prefix_len p bs in
    let le : n ≤ length bs = prefix_len-le-length p bs in
    let is : prefix_len p (b ∷ bs) ≡ suc n = rw h (omega arith) in
    (n, is, omega arith, ascii _ (prefix_len_passes p (b ∷ bs) n 0 (omega arith)))

name_ascii : (b : ℕ) → is_name_byte b ≡ true → b < 128
name_ascii b h = grind arith

digit_ascii : (b : ℕ) → is_ascii_digit b ≡ true → b < 128
digit_ascii b h = grind arith

pub begins_is_name : (b : ℕ) → begins_name b ≡ true → is_name_byte b ≡ true
begins_is_name b h = grind arith

dotted_ends : (t : List ℕ) (y : TokenForm × ℕ) → dotted t ≡ Some y → EndsAscii (46 ∷ t) y.1
dotted_ends [] y h = ends_here 46 [] y.1 (omega arith) (len_is (form.Symbol, 1) y h)
dotted_ends (b ∷ bs) y h = elim (chosen (b == 46) h) [
  | inl dot ↦ following_ends 46 (b ∷ bs) 1 y.1 (ends_here b bs 1 (omega (arith, add-one, eqb-true b 46 dot.0)) refl) (len_is (form.Foreign, 2) y dot.1)
  | inr on ↦ elim (chosen (b == 34) on.1) [
    | inl quote ↦
        let x = quoted_ends form.Quoted 2 (closing bs) y quote.1 in
        following_ends_two 46 b bs x.0.1 y.1 (closing_ends bs x.0 x.1) x.2
    | inr off ↦ elim (chosen (begins_name b) off.1) [
      | inl name ↦ following_ends 46 (b ∷ bs) (prefix_len is_name_byte (b ∷ bs)) y.1 (run_ends is_name_byte b bs name_ascii (begins_is_name b name.0)) (len_is (form.Name, 1 + prefix_len is_name_byte (b ∷ bs)) y name.1)
      | inr alone ↦ ends_here 46 (b ∷ bs) y.1 (omega arith) (len_is (form.Symbol, 1) y alone.1)
    ]
  ]
]

ends_after : (t : List ℕ) (n m : ℕ) → EndsAscii (drop n t) m → EndsAscii t (n + m)
ends_after t n m h = search (rules, get_or-drop, length-drop)

fraction_ends : (t : List ℕ) → (fraction_len t ≡ 0) ⊎ EndsAscii t (fraction_len t)
fraction_ends [] = inl refl
fraction_ends (b ∷ []) = elim (b == 46) as (λ v. (cond (v && false) (1 + 0) 0 ≡ 0) ⊎ EndsAscii (b ∷ []) (cond (v && false) (1 + 0) 0)) [ true ↦ inl refl | false ↦ inl refl ]
fraction_ends (b ∷ (d ∷ ds)) = elim (cases_Bool (b == 46 && is_ascii_digit d)) [
  | inl point ↦
      let b_is : b ≡ 46 = eqb-true b 46 (and_parts (b == 46) _ point).0 in
      let low : b < 128 = omega arith in
      inr (rw point (following_ends b (d ∷ ds) (prefix_len is_ascii_digit (d ∷ ds)) _ (run_ends is_ascii_digit d ds digit_ascii (and_parts (b == 46) _ point).1) refl))
  | inr none ↦ inl (rw none refl)
]

number_ends : (t : List ℕ) → front is_ascii_digit t ≡ true → EndsAscii t (number_len t)
number_ends [] h = cc
number_ends (b ∷ bs) h =
    let n = prefix_len is_ascii_digit (b ∷ bs) in
    elim (fraction_ends (drop n (b ∷ bs))) [
      | inl none ↦ let e : n ≡ n + fraction_len (drop n (b ∷ bs)) = omega arith in subst (EndsAscii (b ∷ bs)) e (run_ends is_ascii_digit b bs digit_ascii h)
      | inr some ↦ ends_after (b ∷ bs) n _ some
    ]

mark_ascii : (b : ℕ) → is_mark_character b ≡ true → b < 128
mark_ascii b h = grind arith

marked_ends : (b : ℕ) (bs : List ℕ) (y : TokenForm × ℕ) → marked b bs ≡ Some y → EndsAscii (b ∷ bs) y.1
marked_ends b bs y h = search rules

worded_ends : (b : ℕ) (bs : List ℕ) (y : TokenForm × ℕ) → worded (b ∷ bs) ≡ Some y → EndsAscii (b ∷ bs) y.1
worded_ends b bs y h = elim (chosen (begins_name b) h) [
  | inl name ↦
      let n = prefix_len is_name_byte (b ∷ bs) in
      let e : n ≡ y.1 = len_is (cond (is_keyword (take n (b ∷ bs))) form.Symbol form.Foreign, n) y name.1 in
      subst (EndsAscii (b ∷ bs)) e (run_ends is_name_byte b bs name_ascii (begins_is_name b name.0))
  | inr mark ↦ marked_ends b bs y mark.1
]

pub measure_ends : (t : List ℕ) (y : TokenForm × ℕ) → token_measure t ≡ Some y → EndsAscii t y.1
unfolding token_measure
measure_ends [] y h = cc
measure_ends (b ∷ bs) y h = elim (chosen (b == 34) h) [
  | inl quote ↦
      let x = quoted_ends form.Text 1 (closing bs) y quote.1 in
      following_ends b bs x.0.1 y.1 (closing_ends bs x.0 x.1) x.2
  | inr h1 ↦ elim (chosen (b == 46) h1.1) [
    | inl dot ↦ let e : b ≡ 46 = eqb-true b 46 dot.0 in rw e (dotted_ends bs y dot.1)
    | inr h2 ↦ elim (chosen (b == 45 && front is_ascii_digit bs) h2.1) [
      | inl minus ↦ following_ends b bs (number_len bs) y.1 (number_ends bs (and_parts (b == 45) _ minus.0).1) (len_is (form.Number, 1 + number_len bs) y minus.1)
      | inr h3 ↦ elim (chosen (is_ascii_digit b) h3.1) [
        | inl digit ↦ let e : number_len (b ∷ bs) ≡ y.1 = len_is (form.Number, number_len (b ∷ bs)) y digit.1 in subst (EndsAscii (b ∷ bs)) e (number_ends (b ∷ bs) digit.0)
        | inr h4 ↦ worded_ends b bs y h4.1
      ]
    ]
  ]
]

pub boundary_token : (t : List ℕ) (f : TokenForm) (n : ℕ) → token_measure t ≡ Some (f, n) → IsUtf8 t → IsCharBoundary t n
boundary_token t f n e u =
    let ends = measure_ends t (f, n) e in
    rw (ends.1, ← add-one) (IsCharBoundary-after_ascii t ends.0 u ends.2 ends.3)

-- a token is not empty
pub token_some : (t : List ℕ) (f : TokenForm) (n : ℕ) → token_measure t ≡ Some (f, n) → 0 < n
token_some t f n e = let ends = measure_ends t (f, n) e in omega (arith, ends.1)

front_shorter : (t : List ℕ) (x : Token × List ℕ) → front_token t ≡ Some x → length x.1 < length t
front_shorter t x h1 = search (rules, same_Some, measure_ends, length-drop)

-- less is left after a token
pub next_shorter : (t : List ℕ) (x : Token × List ℕ) → next_token t ≡ Some x → length x.1 < length t
next_shorter t x h =
    let n = prefix_len is_token_blank t in
    let lt = front_shorter (drop n t) x h in
    omega (arith, length-drop n t)

ahead_same : (f g : List ℕ → List Token) (o : Option (Token × List ℕ)) → ((x : Token × List ℕ) → o ≡ Some x → f x.1 ≡ g x.1) → ahead f o ≡ ahead g o
ahead_same f g o h = search rules

enough : (n m : ℕ) (t : List ℕ) → length t < n → length t < m → tokens_in n t ≡ tokens_in m t
unfolding tokens_in
enough (suc n) (suc m) t h k = ahead_same (tokens_in n) (tokens_in m) (next_token t)
    (λ x e. let lt = next_shorter t x e in enough n m x.1 (omega arith) (omega arith))
enough _ _ t h k = absurd (omega arith)

-- the tokens of a text are the one in front and those of what follows
pub tokens_next : (t : List ℕ) → tokens t ≡ ahead tokens (next_token t)
unfolding tokens tokens_in
tokens_next t = search (rules, ahead_same, next_shorter, enough)

pub tokens_some : (t : List ℕ) (x : Token × List ℕ) → Some x ≡ next_token t → tokens t ≡ x.0 ∷ tokens x.1
tokens_some t x h = tokens_next t ∙ ap (ahead tokens) (sym h)
