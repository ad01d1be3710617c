-- Every token is what measuring finds.
use Rattle.std.proofs.Common.{◌≡◌, ℕ, suc, ◌+◌, Bool, true, false, cond, ◌&&◌, ◌==◌, List, [], ◌∷◌, ◌++◌, length, take, Some, refl, sym, ap}
use Rattle.std.proofs.Common.{◌∙◌, subst, inl, inr, arith, append_assoc, eqb-true, length-append, rules}
use Rattle.std.{proofs.lemmas.Bool.{false≢true, false_from_ne_true, cases_Bool, or_parts}, proofs.Math.Bool.and-false}
use Rattle.std.{proofs.Math.Seq.{take-append_seam, drop-append_seam}, specs.Char.is_ascii_digit, specs.List.prefix_len}
use Rattle.yq_core.{specs.Text.front, proofs.Bools.at_byte}
use Rattle.yq_semantics.specs.Tokens.{Token, string, number, step, symbol, foreign, begins_name, is_name_byte, is_keyword}
use Rattle.yq_semantics.specs.Tokens.{is_mark_character, is_mark_before, is_foreign, Character, spelling, AreCharacters, interpolates, said}
use Rattle.yq_semantics.specs.Tokens.{IsString, IsBareName, begins_fraction, IsUnsigned, IsNumberToken, dot_goes_on, begins_equals}
use Rattle.yq_semantics.specs.Tokens.{IsMarkToken, IsForeign, IsToken}
use Rattle.yq_expr_parser.specs.Lexing.{closing, quoted, fraction_len, number_len, read_word, marked, token_measure, string_content}
use Rattle.yq_expr_parser.{specs.Lexing.token_of, proofs.RunLaws.{closing_again, content_again, form_if, run_len}}
use Rattle.yq_expr_parser.proofs.TokenTakes.{Measures}
use Rattle.yq_expr_parser.specs.declared.token.TokenForm.TheVariants as form

-- ---- each token is measured

-- a string before the rest
pub string_again : (cs : List Character) (rest : List ℕ) → AreCharacters cs → closing ((spelling cs ++ 34 ∷ []) ++ rest) ≡ Some (interpolates cs, length (spelling cs ++ 34 ∷ []))
string_again cs rest are = search (rules, length-append, append_assoc, closing_again)

pub make_again : (make : List ℕ → Token) (cs : List Character) → AreCharacters cs → (t : Token) → t ≡ cond (interpolates cs) foreign (make (said cs)) → cond (interpolates cs) foreign (make (string_content (spelling cs ++ 34 ∷ []))) ≡ t
make_again make cs are t is = rw (content_again cs [] are) (sym is)

pub text_again : (t : Token) (piece rest : List ℕ) → IsString string t piece → Measures t piece rest
unfolding token_measure
text_again t piece rest (cs, are, spelled_is, is) =
    let q = spelling cs ++ 34 ∷ [] in
    let n : 1 + length q ≡ suc (length q) = omega arith in
    let m : token_measure ((34 ∷ q) ++ rest) ≡ Some (cond (interpolates cs) form.Foreign form.Text, length (34 ∷ q)) = rw (string_again cs rest are, n) refl in
    subst (λ (p : List ℕ). Measures t p rest) (sym spelled_is)
    (cond (interpolates cs) form.Foreign form.Text, m, form_if (interpolates cs) form.Text (34 ∷ q) ∙ make_again string cs are t is)

pub quoted_again : (t : Token) (quoted rest : List ℕ) → IsString step t quoted → Measures t (46 ∷ quoted) rest
unfolding token_measure
quoted_again t quoted rest (cs, are, spelled_is, is) =
    let q = spelling cs ++ 34 ∷ [] in
    let n : 2 + length q ≡ suc (suc (length q)) = omega arith in
    let m : token_measure ((46 ∷ (34 ∷ q)) ++ rest) ≡ Some (cond (interpolates cs) form.Foreign form.Quoted, length (46 ∷ (34 ∷ q))) = rw (string_again cs rest are, n) refl in
    subst (λ (p : List ℕ). Measures t (46 ∷ p) rest) (sym spelled_is)
    (cond (interpolates cs) form.Foreign form.Quoted, m, form_if (interpolates cs) form.Quoted (46 ∷ (34 ∷ q)) ∙ make_again step cs are t is)

-- a byte that begins a name begins no other token
pub name_first : (b : ℕ) → begins_name b ≡ true → ((b == 34) ≡ false) × ((b == 46) ≡ false) × ((b == 45) ≡ false) × (is_ascii_digit b ≡ false)
name_first b h = (at_byte begins_name b 34 h refl, at_byte begins_name b 46 h refl, at_byte begins_name b 45 h refl, grind arith)

pub digit_first : (b : ℕ) → is_ascii_digit b ≡ true → ((b == 34) ≡ false) × ((b == 46) ≡ false) × ((b == 45) ≡ false)
digit_first b h = (at_byte is_ascii_digit b 34 h refl, at_byte is_ascii_digit b 46 h refl, at_byte is_ascii_digit b 45 h refl)

pub step_again : (name rest : List ℕ) → IsBareName name rest → Measures (step name) (46 ∷ name) rest
unfolding token_measure
step_again [] rest h = cc
step_again (b ∷ w) rest h =
    let no = name_first b h.0 in
    let len : prefix_len is_name_byte ((b ∷ w) ++ rest) ≡ suc (length w) = run_len is_name_byte (b ∷ w) rest h.1 h.2 in
    let n : 1 + suc (length w) ≡ suc (suc (length w)) = omega arith in
    let m : token_measure ((46 ∷ (b ∷ w)) ++ rest) ≡ Some (form.Name, length (46 ∷ (b ∷ w))) = rw (no.1, no.0, h.0) (rw len (rw n refl)) in
    (form.Name, m, refl)

pub name_first_in : (b : ℕ) (bs : List ℕ) → begins_name b ≡ true → token_measure (b ∷ bs) ≡ read_word (b ∷ bs)
unfolding token_measure
name_first_in b bs h = let no = name_first b h in rw (no.0, no.1, no.2, no.3, h) refl

pub digit_first_in : (b : ℕ) (bs : List ℕ) → is_ascii_digit b ≡ true → token_measure (b ∷ bs) ≡ Some (form.Number, number_len (b ∷ bs))
unfolding token_measure
digit_first_in b bs h = let no = digit_first b h in rw (no.0, no.1, no.2, h) refl

named_of : (t word : List ℕ) (n : ℕ) → prefix_len is_name_byte t ≡ n → take n t ≡ word → read_word t ≡ Some (cond (is_keyword word) form.Symbol form.Foreign, n)
named_of t word n len cut = rw (len, cut) refl

word_measured : (t : Token) (piece rest : List ℕ) → token_measure (piece ++ rest) ≡ Some (cond (is_keyword piece) form.Symbol form.Foreign, length piece)
    → t ≡ cond (is_keyword piece) (symbol piece) foreign → Measures t piece rest
word_measured t piece rest m is = (cond (is_keyword piece) form.Symbol form.Foreign, m, form_word (is_keyword piece) piece ∙ sym is)
  where
    form_word : (c : Bool) (w : List ℕ) → token_of (cond c form.Symbol form.Foreign) w ≡ cond c (symbol w) foreign
    form_word true w = refl
    form_word false w = refl

named_front : (piece rest : List ℕ) → front begins_name piece ≡ true → token_measure (piece ++ rest) ≡ read_word (piece ++ rest)
named_front piece rest h = search (rules, false≢true, name_first_in)

pub word_again : (t : Token) (piece rest : List ℕ) → IsBareName piece rest → t ≡ cond (is_keyword piece) (symbol piece) foreign → Measures t piece rest
word_again t piece rest h is =
    word_measured t piece rest
    (named_front piece rest h.0 ∙ named_of (piece ++ rest) piece (length piece) (run_len is_name_byte piece rest h.1 h.2) (take-append_seam piece rest)) is

pub no_fraction : (rest : List ℕ) → begins_fraction rest ≡ false → fraction_len rest ≡ 0
no_fraction rest h = search rules

pub unsigned_again : (piece rest : List ℕ) → IsUnsigned piece rest → (number_len (piece ++ rest) ≡ length piece) × (front is_ascii_digit piece ≡ true)
unsigned_again piece rest h1 = search (rules, run_len, drop-append_seam, no_fraction, append_assoc, length-append)

pub number_again : (piece rest : List ℕ) → IsNumberToken piece rest → Measures (number piece) piece rest
unfolding token_measure
number_again [] rest (inl h) = cc (unsigned_again [] rest h).1
number_again (b ∷ w) rest (inl h) =
    let u = unsigned_again (b ∷ w) rest h in
    let m : token_measure ((b ∷ w) ++ rest) ≡ Some (form.Number, length (b ∷ w)) = digit_first_in b (w ++ rest) u.1 ∙ ap (λ (k : ℕ). Some (form.Number, k)) u.0 in
    (form.Number, m, refl)
number_again piece rest (inr (w, is, h)) =
    let u = unsigned_again w rest h in
    let begins : front is_ascii_digit (w ++ rest) ≡ true = front_more w rest u.1 in
    let n : 1 + length w ≡ suc (length w) = omega arith in
    let m : token_measure ((45 ∷ w) ++ rest) ≡ Some (form.Number, length (45 ∷ w)) = rw begins (rw u.0 (rw n refl)) in
    subst (λ (p : List ℕ). Measures (number p) p rest) (sym is) (form.Number, m, refl)
  where
    front_more : (w rest : List ℕ) → front is_ascii_digit w ≡ true → front is_ascii_digit (w ++ rest) ≡ true
    front_more [] rest h = cc
    front_more (b ∷ w) rest h = h

-- a byte that begins no string, step, number or word
pub plain_first : (b : ℕ) (rest : List ℕ) → (b == 34) ≡ false → (b == 46) ≡ false → (b == 45 && front is_ascii_digit rest) ≡ false → is_ascii_digit b ≡ false → begins_name b ≡ false
    → token_measure (b ∷ rest) ≡ marked b rest
unfolding token_measure
plain_first b rest q d m n w = rw (q, d, m, n, w) refl

pub dot_alone : (rest : List ℕ) → dot_goes_on rest ≡ false → token_measure (46 ∷ rest) ≡ Some (form.Symbol, 1)
unfolding token_measure
dot_alone rest h1 = search (rules, or_parts)

-- marks, foreign characters, digits and the first bytes of names are apart
pub name_no_mark : (b : ℕ) → begins_name b ≡ true → is_mark_character b ≡ false
name_no_mark b h = rw (
  at_byte begins_name b 46 h refl,
  at_byte begins_name b 91 h refl,
  at_byte begins_name b 93 h refl,
  at_byte begins_name b 40 h refl,
  at_byte begins_name b 41 h refl,
  at_byte begins_name b 123 h refl,
  at_byte begins_name b 125 h refl,
  at_byte begins_name b 44 h refl,
  at_byte begins_name b 58 h refl,
  at_byte begins_name b 124 h refl,
  at_byte begins_name b 61 h refl,
  at_byte begins_name b 43 h refl,
) refl

pub digit_no_mark : (b : ℕ) → is_ascii_digit b ≡ true → is_mark_character b ≡ false
digit_no_mark b h = rw (
  at_byte is_ascii_digit b 46 h refl,
  at_byte is_ascii_digit b 91 h refl,
  at_byte is_ascii_digit b 93 h refl,
  at_byte is_ascii_digit b 40 h refl,
  at_byte is_ascii_digit b 41 h refl,
  at_byte is_ascii_digit b 123 h refl,
  at_byte is_ascii_digit b 125 h refl,
  at_byte is_ascii_digit b 44 h refl,
  at_byte is_ascii_digit b 58 h refl,
  at_byte is_ascii_digit b 124 h refl,
  at_byte is_ascii_digit b 61 h refl,
  at_byte is_ascii_digit b 43 h refl,
)
    refl

pub name_not_before : (b : ℕ) → begins_name b ≡ true → is_mark_before b ≡ false
name_not_before b h = rw (at_byte begins_name b 124 h refl, at_byte begins_name b 43 h refl, at_byte begins_name b 61 h refl, at_byte begins_name b 33 h refl) refl

pub digit_not_before : (b : ℕ) → is_ascii_digit b ≡ true → is_mark_before b ≡ false
digit_not_before b h = rw (at_byte is_ascii_digit b 124 h refl, at_byte is_ascii_digit b 43 h refl, at_byte is_ascii_digit b 61 h refl, at_byte is_ascii_digit b 33 h refl) refl

pub name_no_foreign : (b : ℕ) → begins_name b ≡ true → is_foreign b ≡ false
name_no_foreign b h =
    rw (
      at_byte begins_name b 42 h refl,
      at_byte begins_name b 47 h refl,
      at_byte begins_name b 37 h refl,
      at_byte begins_name b 60 h refl,
      at_byte begins_name b 62 h refl,
      at_byte begins_name b 36 h refl,
      at_byte begins_name b 59 h refl,
      at_byte begins_name b 63 h refl,
      at_byte begins_name b 64 h refl,
      at_byte begins_name b 38 h refl,
      at_byte begins_name b 126 h refl,
      at_byte begins_name b 94 h refl,
      at_byte begins_name b 33 h refl,
      at_byte begins_name b 45 h refl,
    ) refl

pub digit_no_foreign : (b : ℕ) → is_ascii_digit b ≡ true → is_foreign b ≡ false
digit_no_foreign b h =
    rw (
      at_byte is_ascii_digit b 42 h refl,
      at_byte is_ascii_digit b 47 h refl,
      at_byte is_ascii_digit b 37 h refl,
      at_byte is_ascii_digit b 60 h refl,
      at_byte is_ascii_digit b 62 h refl,
      at_byte is_ascii_digit b 36 h refl,
      at_byte is_ascii_digit b 59 h refl,
      at_byte is_ascii_digit b 63 h refl,
      at_byte is_ascii_digit b 64 h refl,
      at_byte is_ascii_digit b 38 h refl,
      at_byte is_ascii_digit b 126 h refl,
      at_byte is_ascii_digit b 94 h refl,
      at_byte is_ascii_digit b 33 h refl,
      at_byte is_ascii_digit b 45 h refl,
    ) refl

pub foreign_no_mark : (b : ℕ) → is_foreign b ≡ true → is_mark_character b ≡ false
foreign_no_mark b h =
    rw (
      at_byte is_foreign b 46 h refl,
      at_byte is_foreign b 91 h refl,
      at_byte is_foreign b 93 h refl,
      at_byte is_foreign b 40 h refl,
      at_byte is_foreign b 41 h refl,
      at_byte is_foreign b 123 h refl,
      at_byte is_foreign b 125 h refl,
      at_byte is_foreign b 44 h refl,
      at_byte is_foreign b 58 h refl,
      at_byte is_foreign b 124 h refl,
      at_byte is_foreign b 61 h refl,
      at_byte is_foreign b 43 h refl,
    ) refl

-- what has the one test fails the other
pub apart : (p q : ℕ → Bool) (b : ℕ) → ((c : ℕ) → q c ≡ true → p c ≡ false) → p b ≡ true → q b ≡ false
apart p q b differ h = false_from_ne_true (q b) (λ k. false≢true (sym (differ b k) ∙ h))

pub foreign_not_before : (b : ℕ) → is_foreign b ≡ true → (b == 33) ≡ false → is_mark_before b ≡ false
foreign_not_before b h other = rw (at_byte is_foreign b 124 h refl, at_byte is_foreign b 43 h refl, at_byte is_foreign b 61 h refl, other) refl

pub mark_again : (piece rest : List ℕ) → IsMarkToken piece rest → Measures (symbol piece) piece rest
mark_again piece rest (inl (b, is, h)) =
    let m : token_measure (b ∷ (61 ∷ rest)) ≡ Some (form.Symbol, 2) = search (rules, plain_first, at_byte, apart, digit_not_before, name_not_before) in
    subst (λ (p : List ℕ). Measures (symbol p) p rest) (sym is) (form.Symbol, m, refl)
mark_again piece rest (inr (b, is, h, no_equals, no_dot)) = subst (λ (p : List ℕ). Measures (symbol p) p rest) (sym is) (form.Symbol, m, refl)
  where
    m : token_measure (b ∷ rest) ≡ Some (form.Symbol, 1)
    m = elim (cases_Bool (b == 46)) [
      | inl dot ↦
          let b_is : b ≡ 46 = eqb-true b 46 dot in
          let alone : dot_goes_on rest ≡ false = rw dot at no_dot in
          rw b_is (dot_alone rest alone)
      | inr other ↦
          plain_first b rest (at_byte is_mark_character b 34 h refl) other (rw (at_byte is_mark_character b 45 h refl) refl)
          (apart is_mark_character is_ascii_digit b digit_no_mark h) (apart is_mark_character begins_name b name_no_mark h) ∙ rw (no_equals, h) refl
    ]

pub foreign_again : (piece rest : List ℕ) → IsForeign piece rest → Measures foreign piece rest
unfolding token_measure
foreign_again piece rest (inl is) = subst (λ (p : List ℕ). Measures foreign p rest) (sym is) (form.Foreign, refl, refl)
foreign_again piece rest (inr (b, is, h, no_equals, no_digit)) = subst (λ (p : List ℕ). Measures foreign p rest) (sym is) (form.Foreign, m, refl)
  where
    before : (is_mark_before b && front (λ c. c == 61) rest) ≡ false
    before = elim (cases_Bool (b == 33)) [
      | inl bang ↦ let none : begins_equals rest ≡ false = rw bang at no_equals in rw none (and-false (is_mark_before b))
      | inr other ↦ let none : is_mark_before b ≡ false = foreign_not_before b h other in rw none refl
    ]

    m : token_measure (b ∷ rest) ≡ Some (form.Foreign, 1)
    m = plain_first b rest (at_byte is_foreign b 34 h refl) (at_byte is_foreign b 46 h refl) no_digit
        (apart is_foreign is_ascii_digit b digit_no_foreign h) (apart is_foreign begins_name b name_no_foreign h) ∙ rw (before, foreign_no_mark b h, h) refl

pub measure_again : (t : Token) (piece rest : List ℕ) → IsToken t piece rest → Measures t piece rest
measure_again t piece rest (inl h) = text_again t piece rest h
measure_again t piece rest (inr (inl (quoted, is, h))) = subst (λ (p : List ℕ). Measures t p rest) (sym is) (quoted_again t quoted rest h)
measure_again t piece rest (inr (inr (inl (name, is, h, t_is)))) = rw t_is (subst (λ (p : List ℕ). Measures (step name) p rest) (sym is) (step_again name rest h))
measure_again t piece rest (inr (inr (inr (inl (h, t_is))))) = rw t_is (number_again piece rest h)
measure_again t piece rest (inr (inr (inr (inr (inl (h, t_is)))))) = word_again t piece rest h t_is
measure_again t piece rest (inr (inr (inr (inr (inr (inl (h, t_is))))))) = rw t_is (mark_again piece rest h)
measure_again t piece rest (inr (inr (inr (inr (inr (inr (h, t_is))))))) = rw t_is (foreign_again piece rest h)
