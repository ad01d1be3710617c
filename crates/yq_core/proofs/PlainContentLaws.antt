-- What is read as the content of a plain scalar is what its lines mean.
use Rattle.std.proofs.Common.{◌≡◌, ℕ, true, false, List, [], ◌∷◌, ◌++◌, refl, sym, inl, inr, ◌&&◌, ap, ◌∙◌, eqb-true, append-nil, rules}
use Rattle.std.{proofs.lemmas.Bool.{false≢true, and_parts, cases_Bool}, proofs.Math.Bool.and-false}
use Rattle.yq_core.specs.Text.{is_break, is_feed, is_return}
use Rattle.yq_core.specs.Quoted.{Char, itself, spell_chars, Break, line_feed, return_feed, spell_break, QuotedLines, last, line}
use Rattle.yq_core.{specs.Quoted.{spell_lines, quoted_lines_content}, specs.PlainContent.{ArePlain, ArePlainLines, IsPlainLines}}
use Rattle.yq_core.{specs.ContentReading.plain_content, proofs.ContentLaws.{AllMean, LinesMean, itself_means, content_is}}

plain_chars_mean : (cs : List Char) (t : List ℕ) → ArePlain cs t → AllMean 0 cs t
plain_chars_mean [] t h = tt
plain_chars_mean (itself b ∷ cs) t h = (itself_means 0 b (spell_chars cs ++ t) h.0 refl refl, plain_chars_mean cs t h.1)
plain_chars_mean _ t h = absurd h

plain_lines_mean : (ls : QuotedLines) → ArePlainLines ls → LinesMean 0 ls
plain_lines_mean (last cs) h = plain_chars_mean cs [] h
plain_lines_mean (line cs true b ls) h = absurd (false≢true (sym h.1))
plain_lines_mean (line cs false b ls) h = (plain_chars_mean cs (spell_break b ++ spell_lines ls) h.0, (λ e. absurd (false≢true e)), plain_lines_mean ls h.2)

pub plain_content_is : (ls : QuotedLines) (text : List ℕ) → IsPlainLines ls text → plain_content text ≡ quoted_lines_content ls
plain_content_is ls text is = ap plain_content is.spelled ∙ content_is 0 ls (plain_lines_mean ls is.lines)

-- one byte more in front
push : ℕ → QuotedLines → QuotedLines
push b (last cs) = last (itself b ∷ cs)
push b (line cs escaped k ls) = line (itself b ∷ cs) escaped k ls

push_spelled : (b : ℕ) (ls : QuotedLines) → b ∷ spell_lines ls ≡ spell_lines (push b ls)
unfolding push
push_spelled b ls = search rules

pushed : (b : ℕ) (t : List ℕ) → is_break (b ∷ t) ≡ false → ((ls : QuotedLines) × IsPlainLines ls t) → (ls : QuotedLines) × IsPlainLines ls (b ∷ t)
unfolding push
pushed b t brk (ls, is) = (
  push b ls,
  record {
    spelled = ap (λ l. b ∷ l) is.spelled ∙ push_spelled b ls;
    lines = search (rules, append-nil, false≢true);
  },
)

broken : (k : Break) (t u : List ℕ) → u ≡ spell_break k ++ t → ((ls : QuotedLines) × IsPlainLines ls t) → (ls : QuotedLines) × IsPlainLines ls u
broken k t u e (ls, is) = (line [] false k ls, record { spelled = e ∙ ap (λ l. spell_break k ++ l) is.spelled; lines = (tt, refl, is.lines) })

no_break : (b : ℕ) → is_feed b ≡ false → is_break (b ∷ []) ≡ false
no_break b h = rw h (and-false (is_return b))

-- each text is made of lines
pub plain_lines_of : (text : List ℕ) → (ls : QuotedLines) × IsPlainLines ls text
plain_lines_of [] = (last [], record { spelled = refl; lines = tt })
plain_lines_of (b ∷ []) = elim (cases_Bool (is_feed b)) [
  | inl e ↦ broken line_feed [] (b ∷ []) (ap (λ x. x ∷ []) (eqb-true b 10 e)) (plain_lines_of [])
  | inr e ↦ pushed b [] (no_break b e) (plain_lines_of [])
]
plain_lines_of (b ∷ c ∷ t) = elim (cases_Bool (is_feed b)) [
  | inl e ↦ broken line_feed (c ∷ t) (b ∷ c ∷ t) (ap (λ x. x ∷ c ∷ t) (eqb-true b 10 e)) (plain_lines_of (c ∷ t))
  | inr e ↦ elim (cases_Bool (is_return b && is_feed c)) [
    | inl f ↦ let p = and_parts (is_return b) (is_feed c) f in
        broken return_feed t (b ∷ c ∷ t) (ap (λ x. x ∷ c ∷ t) (eqb-true b 13 p.0) ∙ ap (λ x. 13 ∷ x ∷ t) (eqb-true c 10 p.1)) (plain_lines_of t)
    | inr f ↦ pushed b (c ∷ t) (rw (e, f) refl) (plain_lines_of (c ∷ t))
  ]
]
