-- A text of digits and letters that begins as a number or a word may be written plain.
use Rattle.std.proofs.lemmas.Grind.{common_steps}
use Rattle.std.proofs.Common.{◌≡◌, ℕ, zero, suc, ◌<◌, ◌≤◌, Bool, true, false, eqb, nat_lt, List, [], ◌∷◌, refl, ⊎_elim, ◌&&◌, ◌||◌, arith}
use Rattle.std.{proofs.Common.{eqb-true, rules}, proofs.Math.Bool.and-false}
use Rattle.std.proofs.lemmas.Bool.{false≢true, false_from_ne_true, cases_lt, lt-ltb, ltb-true, le-leb, or_cases, and_parts}
use Rattle.std.{proofs.lemmas.Str.chars-IsAscii, specs.Char.digit_value, specs.List.list_all, specs.Str.IsAscii}
use Rattle.yq_core.{specs.Text.front, specs.Plain.is_flow_indicator}
use Rattle.yq_core.specs.PlainText.{is_plain_char, begins_plainly, needs_quotes, no_rest, is_plain_text, is_merge, begins_marker}
use Rattle.yq_core.proofs.Bools.{at_byte}

-- a digit or a letter
abbrev pub is_letter : ℕ → Bool
is_letter b = nat_lt (digit_value b) 36

-- a character of numbers and of the schema's words
abbrev pub is_word : ℕ → Bool
is_word b = is_letter b || eqb b 43 || eqb b 45 || eqb b 46

-- a letter, or a point before one, is in front
abbrev pub begins_unsigned : List ℕ → Bool
begins_unsigned [] = false
begins_unsigned (b ∷ bs) = is_letter b || (eqb b 46 && front is_letter bs)

-- the same after a sign or none
abbrev pub begins_signed : List ℕ → Bool
begins_signed [] = false
begins_signed (b ∷ bs) = begins_unsigned (b ∷ bs) || eqb b 43 || (eqb b 45 && begins_unsigned bs)

not_less : (a b : ℕ) → b ≤ a → nat_lt a b ≡ false
not_less a b le = false_from_ne_true (nat_lt a b) (λ e. let f = ltb-true a b e in absurd (omega (arith, f)))

word_high : (b : ℕ) → is_word b ≡ true → b < 123
word_high b h = search (rules, ⊎_elim, false≢true, not_less, cases_lt, eqb-true, or_cases)

word_ascii : (t : List ℕ) → list_all is_word t ≡ true → IsAscii t
word_ascii [] h i = omega arith
word_ascii (b ∷ t) h zero = let p = and_parts (is_word b) (list_all is_word t) h in let high = word_high b p.0 in omega (arith, high)
word_ascii (b ∷ t) h (suc i) = let p = and_parts (is_word b) (list_all is_word t) h in word_ascii t p.1 i

plain_char : (b : ℕ) → is_word b ≡ true → is_plain_char b ≡ true
plain_char b h = search (rules, le-leb, ⊎_elim, lt-ltb, false≢true, cases_lt, eqb-true, or_cases, word_high, at_byte)

plain_chars : (t : List ℕ) → list_all is_word t ≡ true → list_all is_plain_char t ≡ true
plain_chars [] h = refl
plain_chars (b ∷ t) h = let p = and_parts (is_word b) (list_all is_word t) h in rw (plain_char b p.0, plain_chars t p.1) refl

no_flow : (flow : Bool) (b : ℕ) → is_word b ≡ true → (flow && is_flow_indicator b) ≡ false
no_flow flow b h = search rules

no_quotes : (flow : Bool) (t : List ℕ) → list_all is_word t ≡ true → no_rest (needs_quotes flow) t ≡ true
no_quotes flow [] h = refl
no_quotes flow (b ∷ t) h =
    let p = and_parts (is_word b) (list_all is_word t) h in
    rw (no_flow flow b p.0, at_byte is_word b 58 p.0 refl, at_byte is_word b 32 p.0 refl, no_quotes flow t p.1) refl

no_merge : (t : List ℕ) → list_all is_word t ≡ true → is_merge t ≡ false
no_merge t h1 = search (rules, and_parts, at_byte)

plainly : (t : List ℕ) → begins_signed t ≡ true → begins_plainly t ≡ true
plainly t h = grind (arith, common_steps)

no_marker : (t : List ℕ) → begins_signed t ≡ true → begins_marker t ≡ false
no_marker t h1 = search (rules, at_byte, and-false, false≢true, ⊎_elim, and_parts, or_cases)

-- a text of such characters that begins so
pub word_plain : (flow : Bool) (t : List ℕ) → list_all is_word t ≡ true → begins_signed t ≡ true → is_plain_text flow t ≡ true
word_plain flow t h b = simp (chars-IsAscii, word_ascii, plain_chars, plainly, no_quotes, no_merge, no_marker)
