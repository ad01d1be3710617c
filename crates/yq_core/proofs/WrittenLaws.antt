-- What is written in quotes is a quoted scalar that means its string.
use Rattle.std.proofs.Common.{◌≡◌, ℕ, ◌/◌, ◌%◌, ◌<◌, ◌≤◌, Bool, true, false, cond, ◌&&◌, ◌||◌, not, eqb, leb, ltb, List, [], ◌∷◌, ◌++◌}
use Rattle.std.proofs.Common.{Option, Some, None, is_none, flat_map, refl, sym, inl, inr, ap, ◌∙◌, subst, arith, eqb-true, append_assoc}
use Rattle.std.proofs.Common.{append-nil, rules}
use Rattle.std.proofs.lemmas.Bool.{false≢true, cases_lt, cond_both, ltb-true, ltb-false, le-leb, lt-ltb, le-ltb, and_from, not_from_false}
use Rattle.std.{proofs.lemmas.Bool.{or_cases, or_right, ne_eqb, and_parts, cases_Bool}, proofs.Math.Utf8.{encodes, encode, scalar, scalars}}
use Rattle.std.{proofs.lemmas.Str.{encode_ascii, encodes-chars, scalars-chars}, specs.Char.digit_value, specs.List.list_all}
use Rattle.std.{specs.Str.{chars, IsUtf8}, specs.Str.Parse.digits_value}
use Rattle.yq_core.{specs.Characters.is_text_char, specs.Text.{is_feed, is_return, front}}
use Rattle.yq_core.specs.Quoted.{letters, beside, is_unicode, Char, itself, doubled, escape, code, spell_char, spell_chars, char_text}
use Rattle.yq_core.specs.Quoted.{chars_text, bytes_of, IsChar, AreChars, last, quoted_lines_content, IsQuoted}
use Rattle.yq_core.specs.Writable.{is_single_char}
use Rattle.yq_core.specs.Written.{written_letters, letter_of, upper, two_digits, four_digits, code_escape, double_by, in_double, in_single}
use Rattle.yq_core.{specs.Written.{single, double}, proofs.Bools.{chosen, at_byte, not_byte}, proofs.Bytes.{Each, each_encode}}

-- a character, written so in these quotes
pub record IsLocatedAt (q : ℕ) (text p : List ℕ) : Type 0 where
  pub items : List Char
  pub spelled : spell_chars items ≡ p
  pub means : chars_text items ≡ text
  pub are : (rest : List ℕ) → AreChars q items rest

one_char : (q : ℕ) (c : Char) (text p : List ℕ) → spell_char c ≡ p → char_text c ≡ text → ((rest : List ℕ) → IsChar q c rest) → IsLocatedAt q text p
one_char q c text p e f is = record {
  items = c ∷ [];
  spelled = append-nil (spell_char c) ∙ e;
  means = append-nil (char_text c) ∙ f;
  are = λ rest. (is rest, tt);
}

spell_append : (a b : List Char) → spell_chars (a ++ b) ≡ spell_chars a ++ spell_chars b
spell_append [] b = refl
spell_append (c ∷ a) b = ap (λ l. spell_char c ++ l) (spell_append a b) ∙ sym (append_assoc (spell_char c) (spell_chars a) (spell_chars b))

text_append : (a b : List Char) → chars_text (a ++ b) ≡ chars_text a ++ chars_text b
text_append [] b = refl
text_append (c ∷ a) b = ap (λ l. char_text c ++ l) (text_append a b) ∙ sym (append_assoc (char_text c) (chars_text a) (chars_text b))

are_append : (q : ℕ) (a b : List Char) (rest : List ℕ) → AreChars q a (spell_chars b ++ rest) → AreChars q b rest → AreChars q (a ++ b) rest
are_append q [] b rest h k = k
are_append q (c ∷ a) b rest h k = search (rules, append_assoc, spell_append, are_append q a b rest h.1 k)

both : (q : ℕ) (t u p r : List ℕ) → IsLocatedAt q t p → IsLocatedAt q u r → IsLocatedAt q (t ++ u) (p ++ r)
both q t u p r a b = record {
  items = a.items ++ b.items;
  spelled = spell_append a.items b.items ∙ (ap (λ l. l ++ spell_chars b.items) a.spelled ∙ ap (λ l. p ++ l) b.spelled);
  means = text_append a.items b.items ∙ (ap (λ l. l ++ chars_text b.items) a.means ∙ ap (λ l. t ++ l) b.means);
  are = λ rest. are_append q a.items b.items rest (a.are (spell_chars b.items ++ rest)) (b.are rest);
}

none_is_there : (q : ℕ) → IsLocatedAt q [] []
none_is_there q = record { items = []; spelled = refl; means = refl; are = λ rest. tt }

-- a byte that means itself in these quotes
abbrev pub is_ordinary : ℕ → ℕ → Bool
is_ordinary q b = not (eqb b q) && not (is_feed b) && not (is_return b) && not (eqb q 34 && eqb b 92)

ordinary_parts : (w x y z : Bool) → (not w && not x && not y && not z) ≡ true → (w ≡ false) × (x ≡ false) × (y ≡ false) × (z ≡ false)
ordinary_parts w x y z h1 = search (rules, false≢true)

bytes_are_there : (q : ℕ) (t : List ℕ) → Each (is_ordinary q) t → IsLocatedAt q t t
bytes_are_there q [] h = none_is_there q
bytes_are_there q (b ∷ t) h =
    both q (b ∷ []) t (b ∷ []) t (one_char q (itself b) (b ∷ []) (b ∷ []) refl refl (λ rest. (search (rules, ordinary_parts)))) (bytes_are_there q t h.1)

not_both : (b : Bool) → not (b && false) ≡ true
not_both b = search rules

high_ordinary : (q b : ℕ) → q < 128 → 128 ≤ b → is_ordinary q b ≡ true
high_ordinary q b low high = rw (not_byte b q (omega arith), not_byte b 10 (omega arith), not_byte b 13 (omega arith), not_byte b 92 (omega arith)) (not_both (eqb q 34))

itself_is_there : (q c : ℕ) → q < 128 → (c < 128 → is_ordinary q c ≡ true) → IsLocatedAt q (encode c) (encode c)
itself_is_there q c low h = bytes_are_there q (encode c) (each_encode (is_ordinary q) c h (λ b high. high_ordinary q b low high))

-- the letters
abbrev pub AllBeside : List (ℕ × ℕ) → Type 0
AllBeside [] = Unit {0}
AllBeside (e ∷ es) = (beside e.0 letters ≡ Some e.1) × AllBeside es

all_beside : AllBeside written_letters
all_beside = (refl, (refl, (refl, (refl, (refl, (refl, (refl, (refl, (refl, (refl, (refl, (refl, (refl, (refl, tt))))))))))))))

letter_beside : (es : List (ℕ × ℕ)) (c l : ℕ) → AllBeside es → letter_of c es ≡ Some l → beside l letters ≡ Some c
letter_beside [] c l all h = absurd (let e : None ≡ Some l = h in cc)
letter_beside (e ∷ es) c l all h = elim (chosen (eqb c e.1) h) [
  | inl w ↦ (let is : e.1 ≡ c = sym (eqb-true c e.1 w.0) in let same : e.0 ≡ l = (let k : Some e.0 ≡ Some l = w.1 in cc) in
      ap (λ x. beside x letters) (sym same) ∙ (all.0 ∙ ap (λ (x : ℕ). Some x) is))
  | inr w ↦ letter_beside es c l all.1 w.1
]

letter_is_there : (c l : ℕ) → letter_of c written_letters ≡ Some l → IsLocatedAt 34 (encode c) (92 ∷ l ∷ [])
letter_is_there c l h =
    let e = letter_beside written_letters c l all_beside h in
    one_char 34 (escape l) (encode c) (92 ∷ l ∷ []) refl (ap bytes_of e) (λ rest. (refl, (c, e)))

-- digits
upper_value : (d : ℕ) → d < 16 → digit_value (upper d) ≡ d
upper_value d h = search (rules, cond_both, ltb-true, le-ltb, lt-ltb, ltb-false)

digit_at : (d : ℕ) → d < 16 → digit_value (upper d) < 16
digit_at d h = omega (arith, upper_value d h)

two_value : (c : ℕ) → c < 256 → digits_value 16 (two_digits c) ≡ c
two_value c h = rw (upper_value (c / 16 % 16) (omega arith), upper_value (c % 16) (omega arith)) (omega arith)

four_value : (c : ℕ) → c < 65536 → digits_value 16 (four_digits c) ≡ c
four_value c h = rw (upper_value (c / 4096 % 16) (omega arith), upper_value (c / 256 % 16) (omega arith), upper_value (c / 16 % 16) (omega arith), upper_value (c % 16) (omega arith)) (omega arith)

code_is_there : (c : ℕ) → c < 65536 → is_unicode c ≡ true → IsLocatedAt 34 (encode c) (code_escape c)
code_is_there c h s = elim (cases_Bool (ltb c 256)) [
  | inl lt ↦ (let low : c < 256 = ltb-true c 256 lt in rw lt (one_char 34 (code 120 (two_digits c)) (encode c) (92 ∷ 120 ∷ two_digits c) refl (ap encode (two_value c low))
      (λ rest. (refl, refl, (digit_at (c / 16 % 16) (omega arith), (digit_at (c % 16) (omega arith), tt)), ap is_unicode (two_value c low) ∙ s))))
  | inr ge ↦ rw ge (one_char 34 (code 117 (four_digits c)) (encode c) (92 ∷ 117 ∷ four_digits c) refl (ap encode (four_value c h))
      (λ rest. (refl, refl, (digit_at (c / 4096 % 16) (omega arith), (digit_at (c / 256 % 16) (omega arith), (digit_at (c / 16 % 16) (omega arith), (digit_at (c % 16) (omega arith), tt)))), ap is_unicode (four_value c h) ∙ s)))
]

-- a character that no text may hold is one of the first 65,536
below : (c : ℕ) → is_text_char c ≡ false → is_unicode c ≡ true → c < 65536
below c h s = search (rules, or_cases, ltb-true, and_parts, cases_lt, false≢true, and_from, le-leb, or_right, not_from_false, ne_eqb)

double_as : (c : ℕ) (o : Option ℕ) → letter_of c written_letters ≡ o → is_unicode c ≡ true → IsLocatedAt 34 (encode c) (double_by o c)
double_as c (Some l) h s = letter_is_there c l h
double_as c None h s = elim (cases_Bool (is_text_char c)) [
  | inl p ↦ rw p (itself_is_there 34 c (omega arith) (λ low. (search (rules, is_none, at_byte))))
  | inr p ↦ rw p (code_is_there c (below c p s) s)
]

same_scalar : (x y : Bool) → cond x true y ≡ true → (x || y) ≡ true
same_scalar x y h = search rules

double_is_there : (cs : List ℕ) → scalars cs ≡ true → IsLocatedAt 34 (encodes cs) (flat_map in_double cs)
double_is_there [] h = none_is_there 34
double_is_there (c ∷ cs) h =
    let p = and_parts (scalar c) (scalars cs) h in
    both 34 (encode c) (encodes cs) (in_double c) (flat_map in_double cs) (double_as c (letter_of c written_letters) refl (same_scalar (ltb c 55296) (leb 57344 c && ltb c 1114112) p.0)) (double_is_there cs p.1)

single_as : (c : ℕ) → is_single_char c ≡ true → IsLocatedAt 39 (encode c) (in_single c)
single_as c h = elim (cases_Bool (eqb c 39)) [
  | inl e ↦ (let is : c ≡ 39 = eqb-true c 39 e in subst (λ (x : ℕ). IsLocatedAt 39 (encode x) (in_single x)) (sym is) (one_char 39 doubled (encode 39) (39 ∷ 39 ∷ []) refl (sym (encode_ascii 39 (omega arith))) (λ rest. refl)))
  | inr n ↦ rw n (itself_is_there 39 c (omega arith) (λ low. (rw (n, at_byte is_single_char c 10 h refl, at_byte is_single_char c 13 h refl) refl)))
]

single_is_there : (cs : List ℕ) → list_all is_single_char cs ≡ true → IsLocatedAt 39 (encodes cs) (flat_map in_single cs)
single_is_there [] h = none_is_there 39
single_is_there (c ∷ cs) h =
    let p = and_parts (is_single_char c) (list_all is_single_char cs) h in
    both 39 (encode c) (encodes cs) (in_single c) (flat_map in_single cs) (single_as c p.0) (single_is_there cs p.1)

-- a string in quotes
pub record Spells (q : ℕ) (t piece rest : List ℕ) : Type 0 where
  pub chars : List Char
  pub is : IsQuoted q (last chars) piece rest
  pub same : quoted_lines_content (last chars) ≡ t

pub double_spells : (t rest : List ℕ) → IsUtf8 t → Spells 34 t (double t) rest
double_spells t rest u =
    let s = double_is_there (chars t) (scalars-chars t u) in
    search (rules, encodes-chars)

pub single_spells : (t rest : List ℕ) → IsUtf8 t → list_all is_single_char (chars t) ≡ true → front (λ b. eqb b 39) rest ≡ false → Spells 39 t (single t) rest
single_spells t rest u all open_ =
    let s = single_is_there (chars t) all in
    search (rules, encodes-chars)
