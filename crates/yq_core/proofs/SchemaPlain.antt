-- The texts of null, bools, ints and floats may be written plain.
use Rattle.std.proofs.Common.{◌≡◌, ℕ, ◌<◌, ◌≤◌, Bool, true, List, [], ◌∷◌, ◌++◌, refl, sym, inl, inr, ⊎_elim, ◌&&◌, subst, arith}
use Rattle.std.{proofs.Common.{append-nil, append_assoc, codes, rules}, proofs.lemmas.Bool.{lt-ltb, and_parts}}
use Rattle.std.{proofs.lemmas.List.Folds.list_all-append, specs.Char.digit_value, specs.List.list_all}
use Rattle.std.specs.Str.Parse.{AllDigits, IsNumeral}
use Rattle.yq_core.specs.Numbers.{Sign, spell_sign, Integer, decimal, octal, hexadecimal, spell_integer, IsInteger, Mantissa}
use Rattle.yq_core.specs.Numbers.{spell_mantissa, IsMantissa, Exponent, spell_exponent, IsExponent}
use Rattle.yq_core.{specs.Schema.{bool_words, infinity_words, nan_words, IsOneOf, IsInt, IsFloat}, specs.Text.front}
use Rattle.yq_core.{specs.PlainText.is_plain_text, proofs.WordPlain.{is_letter, is_word, begins_unsigned, begins_signed, word_plain}}

-- a test of words
among : (test : List ℕ → Bool) (words : List (List ℕ)) (t : List ℕ) → list_all test words ≡ true → IsOneOf words t → test t ≡ true
among test [] t h i = absurd i
among test (w ∷ ws) t h i = let p = and_parts (test w) (list_all test ws) h in ⊎_elim (λ e. subst (λ (x : List ℕ). test x ≡ true) (sym e) p.0) (λ j. among test ws t p.1 j) i

abbrev is_spelling : List ℕ → Bool
is_spelling t = list_all is_word t && begins_signed t

spelling_plain : (flow : Bool) (t : List ℕ) → is_spelling t ≡ true → is_plain_text flow t ≡ true
spelling_plain flow t h = let p = and_parts (list_all is_word t) (begins_signed t) h in word_plain flow t p.0 p.1

pub bool_plain : (flow : Bool) (t : List ℕ) → IsOneOf bool_words t → is_plain_text flow t ≡ true
bool_plain flow t h = spelling_plain flow t (among is_spelling bool_words t refl h)

pub null_plain : (flow : Bool) → is_plain_text flow (codes "null") ≡ true
null_plain flow = spelling_plain flow (codes "null") refl

digit_letter : (base b : ℕ) → base ≤ 36 → digit_value b < base → is_letter b ≡ true
digit_letter base b le lt = lt-ltb (digit_value b) 36 (omega arith)

digits_words : (base : ℕ) (ds : List ℕ) → base ≤ 36 → AllDigits base ds → list_all is_word ds ≡ true
digits_words base [] le h = refl
digits_words base (d ∷ ds) le h = search (rules, digit_letter, digits_words base ds le h.1)

digits_begin : (base : ℕ) (ds rest : List ℕ) → base ≤ 36 → IsNumeral base ds → front is_letter (ds ++ rest) ≡ true
digits_begin base [] rest le h = absurd (omega (arith, h.0))
digits_begin base (d ∷ ds) rest le h = digit_letter base d le h.1.0

letter_begins : (t : List ℕ) → front is_letter t ≡ true → begins_unsigned t ≡ true
letter_begins t h = search rules

sign_words : (s : Sign) (t : List ℕ) → list_all is_word t ≡ true → list_all is_word (spell_sign s ++ t) ≡ true
sign_words s t h1 = search rules

sign_begins : (s : Sign) (t : List ℕ) → begins_unsigned t ≡ true → begins_signed (spell_sign s ++ t) ≡ true
sign_begins s t h1 = search (rules, begins_unsigned)

both_words : (a b : List ℕ) → list_all is_word a ≡ true → list_all is_word b ≡ true → list_all is_word (a ++ b) ≡ true
both_words a b g h = rw list_all-append (rw (g, h) refl)

integer_plain : (flow : Bool) (i : Integer) → IsInteger i → is_plain_text flow (spell_integer i) ≡ true
integer_plain flow (decimal s ds) h = word_plain flow (spell_sign s ++ ds) (sign_words s ds (digits_words 10 ds (omega arith) h.1))
    (sign_begins s ds (letter_begins ds (rw append-nil at (digits_begin 10 ds [] (omega arith) h))))
integer_plain flow (octal ds) h = word_plain flow (codes "0o" ++ ds) (digits_words 8 ds (omega arith) h.1) refl
integer_plain flow (hexadecimal ds) h = word_plain flow (codes "0x" ++ ds) (digits_words 16 ds (omega arith) h.1) refl

mantissa_words : (m : Mantissa) → IsMantissa m → list_all is_word (spell_mantissa m) ≡ true
mantissa_words m h1 = search (rules, digits_words, both_words)

mantissa_begins : (m : Mantissa) (rest : List ℕ) → IsMantissa m → begins_unsigned (spell_mantissa m ++ rest) ≡ true
mantissa_begins m rest h1 = search (rules, digits_begin, letter_begins, append_assoc)

exponent_words : (e : Exponent) → IsExponent e → list_all is_word (spell_exponent e) ≡ true
exponent_words e h1 = search (rules, sign_words, digits_words)

infinity_plain : (flow : Bool) (s : Sign) (word : List ℕ) → IsOneOf infinity_words word → is_plain_text flow (spell_sign s ++ word) ≡ true
infinity_plain flow s word h =
    word_plain flow (spell_sign s ++ word) (sign_words s word (among (λ w. list_all is_word w) infinity_words word refl h)) (sign_begins s word (among begins_unsigned infinity_words word refl h))

pub int_plain : (flow : Bool) (t : List ℕ) → IsInt t → is_plain_text flow t ≡ true
int_plain flow t h = rw h.1.1 (integer_plain flow h.1.0 h.1.2)

pub float_plain : (flow : Bool) (t : List ℕ) → IsFloat t → is_plain_text flow t ≡ true
float_plain flow t (inl h) = rw h.1 (search (rules, word_plain, sign_words, both_words, mantissa_words, exponent_words, sign_begins, mantissa_begins))
float_plain flow t (inr (inl h)) = rw h.2 (infinity_plain flow h.0 h.1 h.3)
float_plain flow t (inr (inr h)) = spelling_plain flow t (among is_spelling nan_words t refl h)
