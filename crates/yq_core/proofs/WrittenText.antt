-- What is written in quotes is a text, and no break is in it.
use Rattle.std.proofs.Common.{◌≡◌, ℕ, ◌/◌, ◌%◌, ◌<◌, Bool, true, false, ◌&&◌, not, eqb, ltb, List, [], ◌∷◌, ◌++◌, Option, Some, None}
use Rattle.std.proofs.Common.{is_none, flat_map, refl, inl, inr, ap, ◌∙◌, subst, arith, eqb-true, append-nil, rules}
use Rattle.std.proofs.lemmas.Bool.{false≢true, agree_below_at, ltb-true, or_cases, and_from, and_parts, cases_Bool}
use Rattle.std.proofs.Math.Utf8.{encodes, encode, scalar, scalars, low_scalar}
use Rattle.std.{proofs.lemmas.Str.{encode_ascii, encodes-append, chars-encodes, scalars-chars}, specs.List.list_all}
use Rattle.std.specs.Str.{chars, IsUtf8}
use Rattle.yq_core.{specs.Characters.{is_text_char, is_text, pairs_returns}, specs.Text.{is_feed, is_return}, specs.Plain.holds_break}
use Rattle.yq_core.specs.Writable.{is_single_char}
use Rattle.yq_core.specs.Written.{written_letters, letter_of, upper, two_digits, four_digits, code_escape, double_by, in_double, in_single}
use Rattle.yq_core.{specs.Written.{single, double}, proofs.Bools.{chosen, at_byte, not_byte}, proofs.Bytes.{Each, Each-append, each_encode}}

-- a byte of no break
abbrev pub no_break : ℕ → Bool
no_break b = not (is_feed b) && not (is_return b)

-- characters of a text, none of a break
pub record IsLine (p : List ℕ) : Type 0 where
  pub chars : List ℕ
  pub spelled : encodes chars ≡ p
  pub valid : scalars chars ≡ true
  pub text : list_all is_text_char chars ≡ true
  pub bytes : Each no_break p

line_none : IsLine []
line_none = record { chars = []; spelled = refl; valid = refl; text = refl; bytes = tt }

all_append : (test : ℕ → Bool) (a b : List ℕ) → list_all test a ≡ true → list_all test b ≡ true → list_all test (a ++ b) ≡ true
all_append test [] b h k = k
all_append test (c ∷ a) b h k = let p = and_parts (test c) (list_all test a) h in rw (p.0, all_append test a b p.1 k) refl

pub scalars_append : (a b : List ℕ) → scalars a ≡ true → scalars b ≡ true → scalars (a ++ b) ≡ true
scalars_append [] b h k = k
scalars_append (c ∷ a) b h k = let p = and_parts (scalar c) (scalars a) h in rw (p.0, scalars_append a b p.1 k) refl

line_append : (a b : List ℕ) → IsLine a → IsLine b → IsLine (a ++ b)
line_append a b x y = record {
  chars = x.chars ++ y.chars;
  spelled = encodes-append x.chars y.chars ∙ (ap (λ l. l ++ encodes y.chars) x.spelled ∙ ap (λ l. a ++ l) y.spelled);
  valid = scalars_append x.chars y.chars x.valid y.valid;
  text = all_append is_text_char x.chars y.chars x.text y.text;
  bytes = Each-append no_break a b x.bytes y.bytes;
}

-- one character
char_line : (c : ℕ) → scalar c ≡ true → is_text_char c ≡ true → (c < 128 → no_break c ≡ true) → IsLine (encode c)
char_line c s t low = record {
  chars = c ∷ [];
  spelled = append-nil (encode c);
  valid = rw s refl;
  text = rw t refl;
  bytes = each_encode no_break c low (λ b high. rw (not_byte b 10 (omega arith), not_byte b 13 (omega arith)) refl);
}

-- an ASCII character that is written as it is
abbrev pub is_line_ascii : ℕ → Bool
is_line_ascii b = ltb b 128 && is_text_char b && no_break b

ascii_line : (b : ℕ) → is_line_ascii b ≡ true → IsLine (b ∷ [])
ascii_line b h =
    let p = and_parts (ltb b 128 && is_text_char b) (no_break b) h in
    let r = and_parts (ltb b 128) (is_text_char b) p.0 in
    let low : b < 128 = ltb-true b 128 r.0 in
    subst IsLine (encode_ascii b low) (char_line b (low_scalar b (omega arith)) r.1 (λ _. p.1))

ascii_more : (b : ℕ) (p : List ℕ) → is_line_ascii b ≡ true → IsLine p → IsLine (b ∷ p)
ascii_more b p h l = line_append (b ∷ []) p (ascii_line b h) l

letter_ascii : (es : List (ℕ × ℕ)) (c l : ℕ) → list_all (λ e. is_line_ascii e.0) es ≡ true → letter_of c es ≡ Some l → is_line_ascii l ≡ true
letter_ascii [] c l all h = absurd (let e : None ≡ Some l = h in cc)
letter_ascii (e ∷ es) c l all h =
    let p = and_parts (is_line_ascii e.0) (list_all (λ e. is_line_ascii e.0) es) all in
    elim (chosen (eqb c e.1) h) [
      | inl w ↦ (let same : e.0 ≡ l = (let k : Some e.0 ≡ Some l = w.1 in cc) in subst (λ (x : ℕ). is_line_ascii x ≡ true) same p.0)
      | inr w ↦ letter_ascii es c l p.1 w.1
    ]

upper_ascii : (d : ℕ) → d < 16 → is_line_ascii (upper d) ≡ true
upper_ascii d h = agree_below_at (λ x. is_line_ascii (upper x)) (λ x. true) 16 d refl h

two_line : (c : ℕ) → IsLine (two_digits c)
two_line c = ascii_more _ _ (upper_ascii (c / 16 % 16) (omega arith)) (ascii_more _ _ (upper_ascii (c % 16) (omega arith)) line_none)

four_line : (c : ℕ) → IsLine (four_digits c)
four_line c = ascii_more _ _ (upper_ascii (c / 4096 % 16) (omega arith)) (ascii_more _ _ (upper_ascii (c / 256 % 16) (omega arith)) (two_line c))

code_line : (c : ℕ) → IsLine (code_escape c)
code_line c = elim (cases_Bool (ltb c 256)) [
  | inl lt ↦ rw lt (ascii_more 92 _ refl (ascii_more 120 _ refl (two_line c)))
  | inr ge ↦ rw ge (ascii_more 92 _ refl (ascii_more 117 _ refl (four_line c)))
]

double_line : (c : ℕ) (o : Option ℕ) → letter_of c written_letters ≡ o → scalar c ≡ true → IsLine (double_by o c)
double_line c (Some l) h s = ascii_more 92 (l ∷ []) refl (ascii_line l (letter_ascii written_letters c l refl h))
double_line c None h s = elim (cases_Bool (is_text_char c)) [
  | inl p ↦ (let test : ℕ → Bool = λ x. is_none (letter_of x written_letters) in
      let none : test c ≡ true = ap is_none h in
      rw p (char_line c s p (λ low. rw (at_byte test c 10 none refl, at_byte test c 13 none refl) refl)))
  | inr p ↦ rw p (code_line c)
]

doubles_line : (cs : List ℕ) → scalars cs ≡ true → IsLine (flat_map in_double cs)
doubles_line [] h = line_none
doubles_line (c ∷ cs) h =
    let p = and_parts (scalar c) (scalars cs) h in
    line_append (in_double c) (flat_map in_double cs) (double_line c (letter_of c written_letters) refl p.0) (doubles_line cs p.1)

single_line : (c : ℕ) → is_single_char c ≡ true → scalar c ≡ true → IsLine (in_single c)
single_line c h s = search (rules, or_cases, and_parts, eqb-true, cases_Bool, ascii_more, ascii_line, char_line, at_byte)

singles_line : (cs : List ℕ) → list_all is_single_char cs ≡ true → scalars cs ≡ true → IsLine (flat_map in_single cs)
singles_line [] h s = line_none
singles_line (c ∷ cs) h s =
    let p = and_parts (is_single_char c) (list_all is_single_char cs) h in
    let r = and_parts (scalar c) (scalars cs) s in
    line_append (in_single c) (flat_map in_single cs) (single_line c p.0 r.0) (singles_line cs p.1 r.1)

-- a line is a text
parts : (x y : Bool) → (not x && not y) ≡ true → (x ≡ false) × (y ≡ false)
parts x y h1 = search (rules, false≢true)

line_pairs : (p : List ℕ) → Each no_break p → pairs_returns p ≡ true
unfolding pairs_returns
line_pairs [] h = refl
line_pairs (b ∷ p) h = rw ((parts (is_feed b) (is_return b) h.0).1) (line_pairs p h.1)

pub line_holds : (p : List ℕ) → Each no_break p → holds_break p ≡ false
line_holds [] h = refl
line_holds (b ∷ p) h = rw ((parts (is_feed b) (is_return b) h.0).0) (line_holds p h.1)

pub line_is_text : (p : List ℕ) → IsLine p → is_text p ≡ true
line_is_text p l = search (rules, chars-encodes, and_from, line_pairs)

pub double_is_line : (t : List ℕ) → IsUtf8 t → IsLine (double t)
double_is_line t u = ascii_more 34 _ refl (line_append _ (34 ∷ []) (doubles_line (chars t) (scalars-chars t u)) (ascii_line 34 refl))

pub single_is_line : (t : List ℕ) → IsUtf8 t → list_all is_single_char (chars t) ≡ true → IsLine (single t)
single_is_line t u h = ascii_more 39 _ refl (line_append _ (39 ∷ []) (singles_line (chars t) h (scalars-chars t u)) (ascii_line 39 refl))
