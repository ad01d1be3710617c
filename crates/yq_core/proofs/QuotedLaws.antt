-- Quoted scalars: what is read is what is written.
use Rattle.std.proofs.Common.{◌≡◌, ℕ, ◌+◌, Bool, true, false, ◌&&◌, eqb, eq-eqb, List, [], ◌∷◌, ◌++◌, length, Some, refl, sym, ap, ◌∙◌}
use Rattle.std.{proofs.Common.{subst, ◌⊎◌, arith, append_assoc, length-append, rules}, proofs.lemmas.Bool.or_parts}
use Rattle.yq_core.{specs.Answers.more, specs.Text.{is_marker, front}}
use Rattle.yq_core.specs.Quoted.{Char, itself, doubled, escape as letter_escape, code, spell_char, spell_chars, IsChar, AreChars, Break}
use Rattle.yq_core.specs.Quoted.{line_feed, return_feed, spell_break, spell_end, QuotedLines, last, line, spell_lines, AreLines}
use Rattle.yq_core.{specs.QuotedReading.quoted_len, proofs.Bools.{more_more, more_none}}
use Rattle.yq_core.proofs.CharLaws.{IsEscape, code_escape, letter_is_escape}

-- bytes that are passed over
pub length_over : (q : ℕ) (e t : List ℕ) → quoted_len q (length e) (e ++ t) ≡ more (length e) (quoted_len q 0 t)
unfolding quoted_len
length_over q [] t = sym (more_none (quoted_len q 0 t))
length_over q (b ∷ e) t = ap (more 1) (length_over q e t) ∙ (sym (more_more 1 (length e) (quoted_len q 0 t)) ∙ ap (λ n. more n (quoted_len q 0 t)) (omega arith))

-- an escape
pub escape_again : (c : ℕ) (e t : List ℕ) → IsEscape c e → quoted_len 34 0 (92 ∷ (e ++ t)) ≡ more (length (92 ∷ e)) (quoted_len 34 0 t)
unfolding quoted_len
escape_again c e t h = rw (h.line t, h.reads t) (ap (more 1) (length_over 34 e t) ∙ (sym (more_more 1 (length e) (quoted_len 34 0 t)) ∙ ap (λ n. more n (quoted_len 34 0 t)) (omega arith)))

pub char_again : (q : ℕ) (c : Char) (t : List ℕ) → IsChar q c t → quoted_len q 0 (spell_char c ++ t) ≡ more (length (spell_char c)) (quoted_len q 0 t)
unfolding quoted_len
char_again q (itself b) t h = search (rules, or_parts)
char_again q doubled t h = subst (λ (x : ℕ). quoted_len x 0 (39 ∷ 39 ∷ t) ≡ more 2 (quoted_len x 0 t)) (sym h) (sym (more_more 1 1 (quoted_len 39 0 t)))
char_again q (letter_escape letter) t h =
    subst (λ (x : ℕ). quoted_len x 0 (92 ∷ letter ∷ t) ≡ more 2 (quoted_len x 0 t)) (sym h.0) (escape_again h.1.0 (letter ∷ []) t (letter_is_escape letter h.1.0 h.1.1))
char_again q (code letter digits) t h =
    subst (λ (x : ℕ). quoted_len x 0 (92 ∷ ((letter ∷ digits) ++ t)) ≡ more (length (92 ∷ letter ∷ digits)) (quoted_len x 0 t)) (sym h.0) (escape_again _ (letter ∷ digits) t (code_escape letter digits h.1 h.2 h.3))

-- one more piece in front
before_offset : (q : ℕ) (p r t : List ℕ) → quoted_len q 0 (p ++ (r ++ t)) ≡ more (length p) (quoted_len q 0 (r ++ t)) →
    quoted_len q 0 (r ++ t) ≡ more (length r) (quoted_len q 0 t) → quoted_len q 0 ((p ++ r) ++ t) ≡ more (length (p ++ r)) (quoted_len q 0 t)
before_offset q p r t first rest = search (rules, append_assoc, more_more, length-append)

pub chars_again : (q : ℕ) (cs : List Char) (t : List ℕ) → AreChars q cs t → quoted_len q 0 (spell_chars cs ++ t) ≡ more (length (spell_chars cs)) (quoted_len q 0 t)
chars_again q [] t h = sym (more_none (quoted_len q 0 t))
chars_again q (c ∷ cs) t h = before_offset q (spell_char c) (spell_chars cs) t (char_again q c (spell_chars cs ++ t) h.0) (chars_again q cs t h.1)

-- the quotes are two bytes
pub of_quotes : (P : ℕ → Type 0) (q : ℕ) → (q ≡ 34) ⊎ (q ≡ 39) → P 34 → P 39 → P q
of_quotes P q e double single = search rules

break_double : (b : Break) (t : List ℕ) → is_marker t ≡ false → quoted_len 34 0 (spell_break b ++ t) ≡ more (length (spell_break b)) (quoted_len 34 0 t)
unfolding quoted_len
break_double line_feed t h = rw h refl
break_double return_feed t h = rw h (sym (more_more 1 1 (quoted_len 34 0 t)))

break_single : (b : Break) (t : List ℕ) → is_marker t ≡ false → quoted_len 39 0 (spell_break b ++ t) ≡ more (length (spell_break b)) (quoted_len 39 0 t)
unfolding quoted_len
break_single line_feed t h = rw h refl
break_single return_feed t h = rw h (sym (more_more 1 1 (quoted_len 39 0 t)))

slash_again : (b : Break) (t : List ℕ) → quoted_len 34 0 (92 ∷ (spell_break b ++ t)) ≡ more 1 (quoted_len 34 0 (spell_break b ++ t))
unfolding quoted_len
slash_again b t = search rules

pub lines_again : (q : ℕ) (ls : QuotedLines) (t : List ℕ) → (q ≡ 34) ⊎ (q ≡ 39) → AreLines q ls t → quoted_len q 0 (spell_lines ls ++ t) ≡ more (length (spell_lines ls)) (quoted_len q 0 t)
lines_again q (last cs) t quotes h = chars_again q cs t h
lines_again q (line cs escaped b ls) t quotes h =
    search (rules, before_offset, of_quotes, break_double, break_single, slash_again, append_assoc, chars_again, lines_again q ls t quotes h.3)

pub closed_here : (q : ℕ) (rest : List ℕ) → (eqb q 39 && front (λ b. eqb b 39) rest) ≡ false → quoted_len q 0 (q ∷ rest) ≡ Some 0
unfolding quoted_len
closed_here q rest h = rw (eq-eqb q q refl, h) refl

-- the lines that were read up to the quote that closes
pub record Read (q : ℕ) (t : List ℕ) (n : ℕ) : Type 0 where
  pub ls : QuotedLines
  pub rest : List ℕ
  pub cut : t ≡ spell_lines ls ++ (q ∷ rest)
  pub long : n ≡ length (spell_lines ls)
  pub are : AreLines q ls (q ∷ rest)
  pub closed : (eqb q 39 && front (λ b. eqb b 39) rest) ≡ false

-- one character more in front
push : Char → QuotedLines → QuotedLines
push c (last cs) = last (c ∷ cs)
push c (line cs escaped b ls) = line (c ∷ cs) escaped b ls

push_spelled : (c : Char) (ls : QuotedLines) → spell_lines (push c ls) ≡ spell_char c ++ spell_lines ls
unfolding push
push_spelled c ls = search (rules, append_assoc)

push_are : (q : ℕ) (c : Char) (ls : QuotedLines) (t : List ℕ) → IsChar q c (spell_lines ls ++ t) → AreLines q ls t → AreLines q (push c ls) t
unfolding push
push_are q c ls t h1 h2 = search (rules, append_assoc)

pub read_char : (q n m : ℕ) (c : Char) (t u : List ℕ) → u ≡ spell_char c ++ t → IsChar q c t → Read q t n → m ≡ length (spell_char c) + n → Read q u m
read_char q n m c t u e is r size = search (rules, push, append_assoc, push_spelled, length-append, push_are)

pub read_line : (q n m : ℕ) (escaped : Bool) (b : Break) (t u : List ℕ) → u ≡ spell_end escaped b ++ t → (escaped ≡ true → q ≡ 34) → is_marker t ≡ false → Read q t n → m ≡ length (spell_end escaped b) + n → Read q u m
read_line q n m escaped b t u e double begins r size = record {
  ls = line [] escaped b r.ls;
  rest = r.rest;
  cut = e ∙ (ap (λ l. spell_end escaped b ++ l) r.cut ∙ sym (append_assoc (spell_end escaped b) (spell_lines r.ls) (q ∷ r.rest)));
  long = size ∙ (ap (λ k. length (spell_end escaped b) + k) r.long ∙ sym (length-append (spell_end escaped b) (spell_lines r.ls)));
  are = (tt, double, subst (λ (l : List ℕ). is_marker l ≡ false) r.cut begins, r.are);
  closed = r.closed;
}
