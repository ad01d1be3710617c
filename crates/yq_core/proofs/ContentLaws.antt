-- What is read as the content of a scalar is what its lines mean.
use Rattle.std.proofs.lemmas.Grind.{common_steps}
use Rattle.std.proofs.Common.{◌≡◌, ℕ, ◌-◌, ◌<◌, Bool, true, false, cond, eqb, List, [], ◌∷◌, ◌++◌, length, take, drop, get_or, Option}
use Rattle.std.proofs.Common.{Result, IfOk, refl, sym, inl, inr, ◌&&◌, ap, ◌∙◌, subst, arith, eqb-true, append_assoc, append-nil}
use Rattle.std.{proofs.Common.{length-append, length-drop, rules}, proofs.lemmas.Bool.{false≢true, and_parts, cases_Bool, or_parts}}
use Rattle.std.{proofs.Math.Seq.take-append_seam, proofs.Math.Utf8.encode, proofs.lemmas.Str.IsCharBoundary-after_ascii}
use Rattle.std.specs.Str.{IsUtf8, IsCharBoundary}
use Rattle.yq_core.specs.Text.{is_break, is_feed, is_return, front}
use Rattle.yq_core.specs.Quoted.{Char, itself, doubled, escape as letter_escape, code, spell_char, spell_chars, char_text, chars_text}
use Rattle.yq_core.specs.Quoted.{bytes_of, IsChar, AreChars, Break, spell_break, spell_end, QuotedLines, last, line, spell_lines, AreLines}
use Rattle.yq_core.specs.Quoted.{is_plain_blank, are_blank, past_blanks, before_blanks, Gap, folded, joined, one_blank_line_more, gap_text}
use Rattle.yq_core.specs.Quoted.{lines_text, quoted_lines_content, IsQuoted}
use Rattle.yq_core.specs.ContentReading.{BlankBefore, within, after, one_break_more, item_with_blanks, content_on, quoted_text}
use Rattle.yq_core.{specs.ContentReading.{quoted_content, is_pair}, proofs.QuotedLaws.of_quotes}
use Rattle.yq_core.proofs.CharLaws.{IsEscape, code_escape, letter_is_escape}

-- what a character means before a text: white space is held, and anything else comes after what is before it
abbrev pub Means : ℕ → Char → List ℕ → Type 0
Means q c t = (before : BlankBefore) (w : List ℕ) →
    content_on q 0 before w (spell_char c ++ t) ≡ cond (is_plain_blank c) (content_on q 0 before (w ++ char_text c) t)
    (item_with_blanks before w ++ (char_text c ++ content_on q 0 within [] t))

abbrev pub AllMean : ℕ → List Char → List ℕ → Type 0
AllMean q [] t = Unit {0}
AllMean q (c ∷ cs) t = Means q c (spell_chars cs ++ t) × AllMean q cs t

abbrev pub LinesMean : ℕ → QuotedLines → Type 0
LinesMean q (last cs) = AllMean q cs []
LinesMean q (line cs escaped b ls) = AllMean q cs (spell_end escaped b ++ spell_lines ls) × (escaped ≡ true → q ≡ 34) × LinesMean q ls

-- bytes that are passed over
content_over : (q : ℕ) (before : BlankBefore) (w e t : List ℕ) → content_on q (length e) before w (e ++ t) ≡ content_on q 0 before w t
unfolding content_on
content_over q before w [] t = refl
content_over q before w (b ∷ e) t = content_over q before w e t

escape_means : (c : ℕ) (e t : List ℕ) → IsEscape c e → (before : BlankBefore) (w : List ℕ) → content_on 34 0 before w (92 ∷ (e ++ t)) ≡ item_with_blanks before w ++ (encode c ++ content_on 34 0 within [] t)
unfolding content_on
escape_means c e t h before w = rw (h.line t, h.reads t) (ap (λ l. item_with_blanks before w ++ (encode c ++ l)) (content_over 34 within [] e t))

-- a byte that begins no break, and is neither a backslash in double quotes nor a quote in single ones
pub itself_means : (q b : ℕ) (t : List ℕ) → is_break (b ∷ t) ≡ false → (eqb q 34 && eqb b 92) ≡ false → is_pair q (b ∷ t) ≡ false → Means q (itself b) t
unfolding content_on
itself_means q b t brk slash pair before w = search rules

doubled_means : (t : List ℕ) → Means 39 doubled t
unfolding content_on
doubled_means t before w = refl

char_means : (q : ℕ) (c : Char) (t rest : List ℕ) → IsChar q c (t ++ rest) → Means q c t
char_means q (itself b) t rest h =
    let n = or_parts (is_feed b) (is_return b && front is_feed (t ++ rest)) h.1 in
    let brk : is_break (b ∷ t) ≡ false = search (rules, n) in
    itself_means q b t brk h.2 (search (rules, cases_Bool, and_parts, eqb-true, false≢true))
char_means q doubled t rest h = subst (λ (x : ℕ). Means x doubled t) (sym h) (doubled_means t)
char_means q (letter_escape letter) t rest h =
    let own : Means 34 (letter_escape letter) t = λ before w. escape_means h.1.0 (letter ∷ []) t (letter_is_escape letter h.1.0 h.1.1) before w
    ∙ ap (λ (o : Option ℕ). item_with_blanks before w ++ (bytes_of o ++ content_on 34 0 within [] t)) (sym h.1.1) in
    subst (λ (x : ℕ). Means x (letter_escape letter) t) (sym h.0) own
char_means q (code letter digits) t rest h =
    let own : Means 34 (code letter digits) t = λ before w. escape_means _ (letter ∷ digits) t (code_escape letter digits h.1 h.2 h.3) before w in
    subst (λ (x : ℕ). Means x (code letter digits) t) (sym h.0) own

chars_mean : (q : ℕ) (cs : List Char) (t rest : List ℕ) → AreChars q cs (t ++ rest) → AllMean q cs t
chars_mean q [] t rest h = tt
chars_mean q (c ∷ cs) t rest h = (char_means q c (spell_chars cs ++ t) rest (subst (IsChar q c) (sym (append_assoc (spell_chars cs) t rest)) h.0), chars_mean q cs t rest h.1)

pub lines_mean : (q : ℕ) (ls : QuotedLines) (rest : List ℕ) → AreLines q ls rest → LinesMean q ls
lines_mean q (last cs) rest h = chars_mean q cs [] rest h
lines_mean q (line cs escaped b ls) rest h = search (rules, chars_mean, append_assoc, lines_mean q ls rest h.3)

-- a text that fills what is before it, and a break, which leaves held white space out
Fills : ℕ → List ℕ → List ℕ → Type 0
Fills q t x = (before : BlankBefore) (w : List ℕ) → content_on q 0 before w t ≡ item_with_blanks before w ++ x

Drops : ℕ → List ℕ → List ℕ → Type 0
Drops q t u = (before : BlankBefore) (w : List ℕ) → content_on q 0 before w t ≡ content_on q 0 (one_break_more before) [] u

fills_end : (q : ℕ) → Fills q [] []
unfolding Fills content_on
fills_end q before w = sym (append-nil (item_with_blanks before w))

fills_joined : (b : Break) (u : List ℕ) → Fills 34 (92 ∷ (spell_break b ++ u)) (content_on 34 0 (after (joined 0)) [] u)
unfolding Fills content_on
fills_joined b u before w = search rules

drops_break : (q : ℕ) (b : Break) (u : List ℕ) → Drops q (spell_break b ++ u) u
unfolding Drops content_on
drops_break q b u before w = search rules

-- characters in a line
within_fill : (q : ℕ) (cs : List Char) (t x w : List ℕ) → AllMean q cs t → Fills q t x → content_on q 0 within w (spell_chars cs ++ t) ≡ w ++ (chars_text cs ++ x)
unfolding Fills
within_fill q [] t x w h f = f within w
within_fill q (c ∷ cs) t x w h f = search (rules, append_assoc, cases_Bool, within_fill q cs t x (w ++ char_text c) h.1 f, within_fill q cs t x [] h.1 f)

blank_before : (cs : List Char) → are_blank cs ≡ true → before_blanks cs ≡ []
blank_before [] h = refl
blank_before (c ∷ cs) h = rw h refl

cond_same : {A : Type 0} (b : Bool) (x : A) → cond b x x ≡ x
cond_same b x = search rules

within_drop : (q : ℕ) (cs : List Char) (t u w : List ℕ) → AllMean q cs t → Drops q t u → content_on q 0 within w (spell_chars cs ++ t) ≡ cond (are_blank cs) [] w ++ (chars_text (before_blanks cs) ++ content_on q 0 (after (folded 0)) [] u)
unfolding Drops
within_drop q [] t u w h d = d within w
within_drop q (c ∷ cs) t u w h d =
    search (rules, cases_Bool, blank_before, append_assoc, cond_same, within_drop q cs t u (w ++ char_text c) h.1 d, within_drop q cs t u [] h.1 d)

-- characters after a gap
after_fill : (q : ℕ) (g : Gap) (cs : List Char) (t x w : List ℕ) → AllMean q cs t → Fills q t x → content_on q 0 (after g) w (spell_chars cs ++ t) ≡ gap_text g ++ (chars_text (past_blanks cs) ++ x)
unfolding Fills
after_fill q g [] t x w h f = f (after g) w
after_fill q g (c ∷ cs) t x w h f =
    let first = ap (content_on q 0 (after g) w) (append_assoc (spell_char c) (spell_chars cs) t) ∙ h.0 (after g) w in
    elim (cases_Bool (is_plain_blank c)) [
      | inl e ↦ (rw e at first) ∙ (after_fill q g cs t x (w ++ char_text c) h.1 f ∙ rw e refl)
      | inr e ↦ (rw e at first) ∙ (ap (λ l. gap_text g ++ (char_text c ++ l)) (within_fill q cs t x [] h.1 f) ∙ rw e (ap (λ l. gap_text g ++ l) (sym (append_assoc (char_text c) (chars_text cs) x))))
    ]

after_drop : (q : ℕ) (g : Gap) (cs : List Char) (t u w : List ℕ) → AllMean q cs t → Drops q t u →
    content_on q 0 (after g) w (spell_chars cs ++ t) ≡ cond (are_blank cs) (content_on q 0 (after (one_blank_line_more g)) [] u) (gap_text g ++ (chars_text (before_blanks (past_blanks cs)) ++ content_on q 0 (after (folded 0)) [] u))
unfolding Drops
after_drop q g [] t u w h d = d (after g) w
after_drop q g (c ∷ cs) t u w h d =
    let x = content_on q 0 (after (folded 0)) [] u in
    let first = ap (content_on q 0 (after g) w) (append_assoc (spell_char c) (spell_chars cs) t) ∙ h.0 (after g) w in
    elim (cases_Bool (is_plain_blank c)) [
      | inl e ↦ (rw e at first) ∙ (after_drop q g cs t u (w ++ char_text c) h.1 d ∙ rw e refl)
      | inr e ↦ (rw e at first) ∙ (ap (λ l. gap_text g ++ (char_text c ++ l)) (within_drop q cs t u [] h.1 d ∙ ap (λ l. l ++ (chars_text (before_blanks cs) ++ x)) (cond_same (are_blank cs) []))
          ∙ rw (e, e) (ap (λ l. gap_text g ++ l) (sym (append_assoc (char_text c) (chars_text (before_blanks cs)) x))))
    ]

-- lines after a gap
lines_content : (q : ℕ) (g : Gap) (ls : QuotedLines) → LinesMean q ls → content_on q 0 (after g) [] (spell_lines ls) ≡ lines_text g ls
lines_content q g (last cs) h =
    ap (content_on q 0 (after g) []) (sym (append-nil (spell_chars cs))) ∙ (after_fill q g cs [] [] [] h (fills_end q) ∙ ap (λ l. gap_text g ++ l) (append-nil (chars_text (past_blanks cs))))
lines_content q g (line cs true b ls) h = search (rules, after_fill, fills_joined, lines_content q (joined 0) ls h.2)
lines_content q g (line cs false b ls) h =
    search (rules, after_drop, drops_break, lines_content q (one_blank_line_more g) ls h.2, lines_content q (folded 0) ls h.2)

-- a whole scalar
pub content_is : (q : ℕ) (ls : QuotedLines) → LinesMean q ls → quoted_text q (spell_lines ls) ≡ quoted_lines_content ls
content_is q (last cs) h =
    ap (content_on q 0 within []) (sym (append-nil (spell_chars cs))) ∙ (within_fill q cs [] [] [] h (fills_end q) ∙ append-nil (chars_text cs))
content_is q (line cs true b ls) h =
    let ends : Fills q (spell_end true b ++ spell_lines ls) (content_on q 0 (after (joined 0)) [] (spell_lines ls)) =
    subst (λ (x : ℕ). Fills x (92 ∷ (spell_break b ++ spell_lines ls)) (content_on x 0 (after (joined 0)) [] (spell_lines ls))) (sym (h.1 refl)) (fills_joined b (spell_lines ls)) in
    within_fill q cs (spell_end true b ++ spell_lines ls) _ [] h.0 ends ∙ ap (λ l. chars_text cs ++ l) (lines_content q (joined 0) ls h.2)
content_is q (line cs false b ls) h =
    within_drop q cs (spell_end false b ++ spell_lines ls) (spell_lines ls) [] h.0 (drops_break q b (spell_lines ls))
    ∙ (ap (λ l. l ++ (chars_text (before_blanks cs) ++ content_on q 0 (after (folded 0)) [] (spell_lines ls))) (cond_same (are_blank cs) [])
    ∙ ap (λ l. chars_text (before_blanks cs) ++ l) (lines_content q (folded 0) ls h.2))

pub quoted_content_is : (q : ℕ) (ls : QuotedLines) (piece rest : List ℕ) → IsQuoted q ls piece rest → quoted_content piece ≡ quoted_lines_content ls
quoted_content_is q ls piece rest is = grind (arith, common_steps, length-append, content_is, lines_mean, take-append_seam)

-- where a quoted scalar may be cut: after the quote that opens it, and before the quote that closes it
pub boundary_open : (q : ℕ) (ls : QuotedLines) (piece rest : List ℕ) → IsQuoted q ls piece rest → IsUtf8 piece → IsCharBoundary piece 1
boundary_open q ls piece rest is u =
    let low : q < 128 = of_quotes (λ x. x < 128) q is.quotes (omega arith) (omega arith) in
    let first : get_or piece 0 0 ≡ q = ap (λ (l : List ℕ). get_or l 0 0) is.spelled in
    IsCharBoundary-after_ascii piece 0 u (omega (arith, ap length is.spelled)) (omega (arith, first, low))

pub boundary_close : (q : ℕ) (ls : QuotedLines) (piece rest inner : List ℕ) → IsQuoted q ls piece rest → inner ≡ drop 1 piece → IsCharBoundary inner (length inner - 1)
boundary_close q ls piece rest inner is e = grind (arith, common_steps)

-- what is between the quotes
pub between_quotes : (piece inner : List ℕ) → inner ≡ drop 1 piece → take (length inner - 1) inner ≡ take (length piece - 2) (drop 1 piece)
between_quotes piece inner e = search (rules, length-drop)

pub if_ok_same : {X E : Type 0} (r : Result X E) (f : X → List ℕ) (x y : List ℕ) → IfOk r (λ s. f s ≡ x) → x ≡ y → IfOk r (λ s. f s ≡ y)
if_ok_same r f x y h e = search rules
