-- No line begins with a document marker inside the pieces of a row.
use Rattle.std.proofs.Common.{◌≡◌, ⊎_elim, ℕ, ◌<◌, Bool, true, false, eqb, List, [], ◌∷◌, ◌++◌, Option, Some, None, refl, sym, ap, ◌∙◌}
use Rattle.std.proofs.Common.{subst, arith, append_assoc, eqb-true, if◌then◌else◌, rules}
use Rattle.std.{proofs.lemmas.Bool.{and_parts, cases_Bool, false≢true, not-false, not-true, or_cases}, specs.Str.Parse.AllDigits}
use Rattle.std.specs.Char.{digit_value}
use Rattle.yq_core.specs.Plain.{ends_plain}
use Rattle.yq_core.specs.Quoted.{Break, Char, QuotedLines, last, line, spell_char, spell_chars, spell_end, spell_lines, AreChars, AreLines}
use Rattle.yq_core.{specs.Quoted.{IsChar, beside}, specs.Text.{is_empty, is_feed, is_line, is_marker, is_space, upto, NoneIn}}

-- No line but the first begins with a marker in a piece before a rest, nor does the first, where the piece begins a line.
abbrev pub Unmarked : Bool → List ℕ → List ℕ → Type 0
Unmarked at [] rest = Unit {0}
Unmarked at (b ∷ p) rest = (at ≡ true → is_marker (b ∷ (p ++ rest)) ≡ false) × Unmarked (is_feed b) p rest

-- That holds of a text up to a rest.
pub record Upto (at : Bool) (t rest : List ℕ) : Type 0 where
  pub piece : List ℕ
  pub spelled : t ≡ piece ++ rest
  pub apart : Unmarked at piece rest

pub upto_none : (at : Bool) (rest : List ℕ) → Upto at rest rest
upto_none at rest = record { piece = []; spelled = refl; apart = tt }

pub upto_more : (at : Bool) (b : ℕ) (t rest : List ℕ) → (at ≡ true → is_marker (b ∷ t) ≡ false) → Upto (is_feed b) t rest → Upto at (b ∷ t) rest
upto_more at b t rest h k = record {
  piece = b ∷ k.piece;
  spelled = ap (λ (l : List ℕ). b ∷ l) k.spelled;
  apart = (λ e. subst (λ (l : List ℕ). is_marker (b ∷ l) ≡ false) k.spelled (h e), k.apart);
}

-- where the rest of a piece doesn't begin with a marker
pub upto_line : (at : Bool) (t rest : List ℕ) → is_marker t ≡ false → Upto false t rest → Upto at t rest
upto_line at t rest h k = record { piece = k.piece; spelled = k.spelled; apart = go k.piece k.spelled k.apart } where
  go : (p : List ℕ) → t ≡ p ++ rest → Unmarked false p rest → Unmarked at p rest
  go [] e a = tt
  go (b ∷ p) e a = (λ _. subst (λ (l : List ℕ). is_marker l ≡ false) e h, a.1)

pub upto_inside : (at : Bool) (t rest : List ℕ) → Upto at t rest → Upto false t rest
upto_inside at t rest k = record { piece = k.piece; spelled = k.spelled; apart = go k.piece k.apart } where
  go : (p : List ℕ) → Unmarked at p rest → Unmarked false p rest
  go [] a = tt
  go (b ∷ p) a = (λ e. absurd (false≢true e), a.1)

-- no byte is an LF
abbrev pub NoFeed : List ℕ → Type 0
NoFeed [] = Unit {0}
NoFeed (b ∷ p) = (is_feed b ≡ false) × NoFeed p

pub upto_byte : (b : ℕ) (t rest : List ℕ) → is_feed b ≡ false → Upto false t rest → Upto false (b ∷ t) rest
upto_byte b t rest h k = upto_more false b t rest (λ e. absurd (false≢true e)) (subst (λ (x : Bool). Upto x t rest) (sym h) k)

pub upto_piece : (p t rest : List ℕ) → NoFeed p → Upto false t rest → Upto false (p ++ t) rest
upto_piece [] t rest h k = k
upto_piece (b ∷ p) t rest h k = upto_byte b (p ++ t) rest h.0 (upto_piece p t rest h.1 k)

-- ---- bytes with which no marker begins

pub no_marker_byte : (b : ℕ) (t : List ℕ) → eqb b 45 ≡ false → eqb b 46 ≡ false → is_marker (b ∷ t) ≡ false
no_marker_byte b t h1 h2 = search rules

pub space_no_marker : (b : ℕ) (t : List ℕ) → is_space (b ∷ t) ≡ true → is_marker (b ∷ t) ≡ false
space_no_marker b t h = search (rules, ⊎_elim, eqb-true, or_cases, and_parts, no_marker_byte)

-- ---- plain scalars

feed_plain : (flow : Bool) (spaces : Option ℕ) (b : ℕ) (s : List ℕ) → is_feed b ≡ true → ends_plain flow spaces (b ∷ s) ≡ false → is_marker s ≡ false
unfolding upto
feed_plain flow spaces b s h1 h2 = search (rules, ⊎_elim, space_no_marker, cases_Bool, false≢true, not-true, and_parts, eqb-true, not-false)

pub plain_lines : (flow : Bool) (spaces : Option ℕ) (p t rest : List ℕ) → NoneIn (ends_plain flow spaces) p t → Upto false t rest → Upto false (p ++ t) rest
plain_lines flow spaces [] t rest h k = k
plain_lines flow spaces (b ∷ p) t rest h k = go (is_feed b) refl (plain_lines flow spaces p t rest h.1 k) where
  go : (x : Bool) → is_feed b ≡ x → Upto false (p ++ t) rest → Upto false (b ∷ (p ++ t)) rest
  go false e more = upto_byte b (p ++ t) rest e more
  go true e more = upto_more false b (p ++ t) rest (λ f. absurd (false≢true f)) (upto_line (is_feed b) (p ++ t) rest (feed_plain flow spaces b (p ++ t) e h.0) more)

-- ---- quoted scalars

letter_no_feed : (table : List (ℕ × ℕ)) (letter c : ℕ) → beside 10 table ≡ None → beside letter table ≡ Some c → is_feed letter ≡ false
letter_no_feed table letter c none h = search (rules, ⊎_elim, eqb-true, cases_Bool)

digits_no_feed : (ds : List ℕ) → AllDigits 16 ds → NoFeed ds
digits_no_feed [] h = tt
digits_no_feed (d ∷ ds) h = (⊎_elim {0, 0, 0} (λ (e : is_feed d ≡ true). absurd (ten (eqb-true d 10 e))) (λ (e : is_feed d ≡ false). e) (cases_Bool (is_feed d)), digits_no_feed ds h.1) where
  ten : d ≡ 10 → ⊥
  ten e = let x : digit_value 10 < 16 = subst (λ (n : ℕ). digit_value n < 16) e h.0 in omega (arith, x)

char_no_feed : (quote : ℕ) (c : Char) (rest : List ℕ) → IsChar quote c rest → NoFeed (spell_char c)
char_no_feed quote c rest h1 = search (rules, ⊎_elim, false≢true, cases_Bool, letter_no_feed, digits_no_feed)

both_no_feed : (p q : List ℕ) → NoFeed p → NoFeed q → NoFeed (p ++ q)
both_no_feed [] q h k = k
both_no_feed (b ∷ p) q h k = (h.0, both_no_feed p q h.1 k)

chars_no_feed : (quote : ℕ) (cs : List Char) (rest : List ℕ) → AreChars quote cs rest → NoFeed (spell_chars cs)
chars_no_feed quote [] rest h = tt
chars_no_feed quote (c ∷ cs) rest h = both_no_feed (spell_char c) (spell_chars cs) (char_no_feed quote c (spell_chars cs ++ rest) h.0) (chars_no_feed quote cs rest h.1)

break_lines : (escaped : Bool) (b : Break) (t rest : List ℕ) → Upto true t rest → Upto false (spell_end escaped b ++ t) rest
break_lines escaped b t rest h1 = search (rules, upto_byte, upto_more, false≢true)

pub quoted_lines : (quote : ℕ) (ls : QuotedLines) (t rest : List ℕ) → AreLines quote ls t → Upto false t rest → Upto false (spell_lines ls ++ t) rest
quoted_lines quote (last cs) t rest h k = upto_piece (spell_chars cs) t rest (chars_no_feed quote cs t h) k
quoted_lines quote (line cs escaped b ls) t rest h k =
    let more = quoted_lines quote ls t rest h.3 k in
    let own = break_lines escaped b (spell_lines ls ++ t) rest (upto_line true (spell_lines ls ++ t) rest h.2 more) in
    let all = upto_piece (spell_chars cs) (spell_end escaped b ++ (spell_lines ls ++ t)) rest (chars_no_feed quote cs _ h.0) own in
    subst (λ (l : List ℕ). Upto false l rest) (ap (λ l. spell_chars cs ++ l) (sym (append_assoc (spell_end escaped b) (spell_lines ls) t)) ∙ sym (append_assoc (spell_chars cs) (spell_end escaped b ++ spell_lines ls) t)) all

-- ---- lines

pub line_lines : (l t rest : List ℕ) → is_line l ≡ true → Upto true t rest → Upto false (l ++ t) rest
unfolding is_line
line_lines [] t rest h k = absurd (false≢true h)
line_lines (b ∷ l) t rest h k = go (is_feed b) refl h (λ more. line_lines l t rest more k) where
  none : (l : List ℕ) → is_empty l ≡ true → Upto true (l ++ t) rest
  none [] e = k
  none (x ∷ l) e = absurd (false≢true e)

  go : (x : Bool) → is_feed b ≡ x → (if x then is_empty l else is_line l) ≡ true → (is_line l ≡ true → Upto false (l ++ t) rest) → Upto false (b ∷ (l ++ t)) rest
  go true e m more = upto_more false b (l ++ t) rest (λ f. absurd (false≢true f)) (subst (λ (y : Bool). Upto y (l ++ t) rest) (sym e) (none l m))
  go false e m more = upto_byte b (l ++ t) rest e (more m)
