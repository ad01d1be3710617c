-- The characters of quoted scalars: what is read is what is written.
use Rattle.std.proofs.Common.{◌≡◌, ℕ, zero, suc, ◌+◌, ◌*◌, true, false, eqb, eqb-true, List, [], ◌∷◌, ◌++◌, length, take, drop, Some, None}
use Rattle.std.{proofs.Common.{refl, sym, ap, ◌∙◌, subst, ◌⊎◌, arith, rules}, proofs.lemmas.Bool.{ltb-true, lt-ltb, cases_Bool}}
use Rattle.std.{proofs.Math.Utf8.encode, proofs.lemmas.Option.cond_some, specs.Char.digit_value}
use Rattle.std.specs.Str.Parse.{AllDigits, digits_value, digits_value_after}
use Rattle.yq_core.specs.Text.{is_break}
use Rattle.yq_core.specs.Quoted.{letters, beside, digit_counts, is_unicode, Char, escape as letter_escape, code, spell_char, char_text}
use Rattle.yq_core.{specs.Quoted.{bytes_of, IsChar}, specs.QuotedReading.{hex, hex_digit, leading_escape, coded, lettered}}
use Rattle.yq_core.{proofs.Bools.bind_some, proofs.EscapeLaws.{escape_cases, none_escaped}}

-- digits in front are read as the number that they write
pub hex_again : (v : ℕ) (digits rest : List ℕ) → AllDigits 16 digits → hex (length digits) v (digits ++ rest) ≡ Some (digits_value_after 16 v digits)
unfolding hex
hex_again v [] rest h = refl
hex_again v (d ∷ ds) rest h = rw (lt-ltb _ _ h.0) (hex_again (v * 16 + digit_value d) ds rest h.1)

-- digits that the number was read from
pub record Digits (n v w : ℕ) (t : List ℕ) : Type 0 where
  pub all : AllDigits 16 (take n t)
  pub many : length (take n t) ≡ n
  pub cut : t ≡ take n t ++ drop n t
  pub value : digits_value_after 16 v (take n t) ≡ w

pub hex_takes : (n v w : ℕ) (t : List ℕ) → hex n v t ≡ Some w → Digits n v w t
unfolding hex
hex_takes zero v w t h = record { all = tt; many = refl; cut = refl; value = let e : Some v ≡ Some w = h in cc }
hex_takes (suc n) v w [] h = absurd (let e : None ≡ Some w = h in cc)
hex_takes (suc n) v w (b ∷ bs) h =
    let x = bind_some (hex_digit b) h in
    search (rules, cond_some, ltb-true, hex_takes n (v * 16 + x.0) w bs x.2)

-- a letter of the table isn't one that digits follow, and begins no break
letter_not : (letter c k : ℕ) → beside letter letters ≡ Some c → beside k letters ≡ None → eqb letter k ≡ false
letter_not letter c k h none = search (rules, cases_Bool, eqb-true)

-- the letters that digits follow
counted : (letter n : ℕ) → beside letter digit_counts ≡ Some n → ((letter ≡ 120) × (n ≡ 2)) ⊎ (((letter ≡ 117) × (n ≡ 4)) ⊎ ((letter ≡ 85) × (n ≡ 8)))
counted letter n h = search rules

-- what an escape is after its backslash
pub record IsEscape (c : ℕ) (e : List ℕ) : Type 0 where
  pub reads : (t : List ℕ) → leading_escape (e ++ t) ≡ Some (c, length e)
  pub line : (t : List ℕ) → is_break (e ++ t) ≡ false

-- digits after their letter are an escape
pub code_escape : (letter : ℕ) (digits : List ℕ) → beside letter digit_counts ≡ Some (length digits) → AllDigits 16 digits → is_unicode (digits_value 16 digits) ≡ true → IsEscape (digits_value 16 digits) (letter ∷ digits)
unfolding leading_escape
code_escape letter digits h all is = search (rules, hex_again, counted)

-- a letter of the table is an escape
pub letter_is_escape : (letter c : ℕ) → beside letter letters ≡ Some c → IsEscape c (letter ∷ [])
unfolding leading_escape
letter_is_escape letter c h = search (rules, letter_not)

-- a character that was read after a backslash
pub record Escaped (c k : ℕ) (t : List ℕ) : Type 0 where
  pub char : Char
  pub spelled : 92 ∷ t ≡ spell_char char ++ drop k t
  pub long : length (spell_char char) ≡ k + 1
  pub is : (rest : List ℕ) → IsChar 34 char rest
  pub text : char_text char ≡ encode c

by_digits : (letter n c k v : ℕ) (t : List ℕ) → beside letter digit_counts ≡ Some n → hex n 0 t ≡ Some v → coded n (Some v) ≡ Some (c, k) → Escaped c k (letter ∷ t)
by_digits letter n c k v t count read h =
    let guard = cond_some (is_unicode v) _ _ h in
    let d = hex_takes n 0 v t read in
    let size : suc n ≡ k = ap (λ (p : ℕ × ℕ). p.1) guard.1 in
    let same : v ≡ c = ap (λ (p : ℕ × ℕ). p.0) guard.1 in
    let cut : drop k (letter ∷ t) ≡ drop n t = ap (λ j. drop j (letter ∷ t)) (sym size) in
    record {
      char = code letter (take n t);
      spelled = ap (λ l. 92 ∷ letter ∷ l) (d.cut ∙ ap (λ l. take n t ++ l) (sym cut));
      long = omega (arith, d.many, size);
      is = λ rest. (refl, count ∙ ap (λ (j : ℕ). Some j) (sym d.many), d.all, subst (λ (x : ℕ). is_unicode x ≡ true) (sym d.value) guard.0);
      text = ap encode (d.value ∙ same);
    }

by_count : (letter n c k : ℕ) (t : List ℕ) → beside letter digit_counts ≡ Some n → coded n (hex n 0 t) ≡ Some (c, k) → Escaped c k (letter ∷ t)
by_count letter n c k t count h = search (rules, by_digits)

by_letter : (letter c k : ℕ) (t : List ℕ) → lettered (beside letter letters) ≡ Some (c, k) → Escaped c k (letter ∷ t)
by_letter letter c k t h =
    let e : ((beside letter letters) ≡ Some c) × (1 ≡ k) = search rules in
    record {
      char = letter_escape letter;
      spelled = ap (λ j. 92 ∷ letter ∷ drop j (letter ∷ t)) e.1;
      long = omega (arith, e.1);
      is = λ rest. (refl, (c, e.0));
      text = ap bytes_of e.0;
    }

pub escape_takes : (t : List ℕ) (c k : ℕ) → leading_escape t ≡ Some (c, k) → Escaped c k t
escape_takes [] c k h = absurd (none_escaped c k h)
escape_takes (b ∷ bs) c k h = search (rules, escape_cases, by_count, by_letter)
