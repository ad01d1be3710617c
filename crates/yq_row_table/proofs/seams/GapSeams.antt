-- Gaps joined, and repaired after a block scalar.
use Rattle.std.proofs.Common.{◌≡◌, ◌⊎◌, inl, inr, ℕ, Bool, true, false, ◌&&◌, ◌||◌, List, [], ◌∷◌, ◌++◌, refl, sym, ap, ◌∙◌, subst, ⊎_elim}
use Rattle.std.proofs.Common.{append_assoc, append-nil, replicate, rules}
use Rattle.std.proofs.lemmas.Bool.{false≢true, cond_both, and_parts, cases_Bool, or_parts}
use Rattle.yq_core.specs.Block.{RawLines}
use Rattle.yq_core.specs.BlockRepair.{AreGap, is_short, is_outdented_comment, repaired_blank, repaired_comment, repair}
use Rattle.yq_core.{specs.BlockWritten.ends_with_break, specs.Lines.{is_hash, is_blank}}
use Rattle.yq_core.specs.Text.{no_white, NoneIn, is_feed, is_return, is_break, is_empty, is_line, ends_line, front, past_white, put_byte}
use Rattle.yq_core.{specs.Text.{text_lines, joined}, proofs.LineLaws.lines_again}
use Rattle.yq_row_table.{specs.Gap.{IsBreak, IsLineEnd, IsGapLine, AreGapLines, IsGap}, proofs.EmptyTexts.{empty_is, none_is, empty_or}}
use Rattle.yq_row_table.{proofs.LineEnds.{white_again, white_none, comment_none}, proofs.NothingLaws.some_after}
use Rattle.yq_row_table.{proofs.seams.SeamLaws.line_by_break, proofs.RowAgain.white_spaces}

past_line : (white comment p rest : List ℕ) (h : IsLineEnd white comment p rest) → (past_white p ≡ comment ++ h.break) × ((ends_line (comment ++ h.break) || is_hash (comment ++ h.break)) ≡ true)
past_line white comment p rest h =
    let parts = Rattle.yq_row_table.proofs.LineEnds.after_comment comment h.break [] h.as_comment (⊎_elim {0, 0, 0} (λ e. inl e) (λ e. inr (e.0, refl)) h.ends) in
    let none : comment ++ (h.break ++ []) ≡ comment ++ h.break = ap (λ l. comment ++ l) (append-nil h.break) in
    let first : no_white (comment ++ h.break) ≡ true = ap no_white (sym none) ∙ parts.0 in
    let past : past_white (white ++ (comment ++ h.break)) ≡ comment ++ h.break = ap (λ (y : List ℕ × List ℕ). y.1) (white_again white (comment ++ h.break) h.blank first) in
    (ap past_white h.spelled ∙ past, ap (λ l. ends_line l || is_hash l) (sym none) ∙ parts.1)

line_kind : (l rest : List ℕ) → IsGapLine l rest → (is_blank l || is_hash (past_white l)) ≡ true
line_kind l rest h = let past = past_line h.white h.comment l rest h.line in ap (λ u. ends_line u || is_hash u) past.0 ∙ past.1

-- the lines of a gap
pub gap_kinds : (ls : RawLines) (rest : List ℕ) → AreGapLines ls rest → AreGap ls
gap_kinds [] rest h = tt
gap_kinds (l ∷ ls) rest h = (line_kind l (joined ls ++ rest) h.0, gap_kinds ls rest h.1)

joined_some : (ls : RawLines) (rest : List ℕ) → AreGapLines ls rest → joined ls ++ rest ≡ [] → ls ≡ []
joined_some [] rest h e = refl
joined_some (l ∷ ls) rest h e = search (rules, none_is, append_assoc, false≢true)

line_is : (l rest : List ℕ) → IsGapLine l rest → (is_line l ≡ true) ⊎ ((rest ≡ []) × NoneIn ends_line l [])
line_is l rest h = ⊎_elim {0, 0, 0}
    (λ e. inl (line_by_break h.white h.comment l rest h.line ∙ (and_parts (is_break h.line.break) (is_line h.line.break) e).1))
    (λ e.
    let is : l ≡ h.white ++ h.comment = h.line.spelled ∙ (ap (λ x. h.white ++ (h.comment ++ x)) e.0 ∙ ap (λ x. h.white ++ x) (append-nil h.comment)) in
    let none = white_none h.white h.comment h.line.break h.line.blank (comment_none h.comment h.line.break h.line.as_comment) in
    inr (e.1, subst (λ (x : List ℕ). NoneIn ends_line x []) (sym is) (subst (NoneIn ends_line (h.white ++ h.comment)) e.0 none)))
    h.line.ends

one_line : (b : ℕ) (p : List ℕ) → NoneIn ends_line (b ∷ p) [] → text_lines (b ∷ p) ≡ (b ∷ p) ∷ []
unfolding text_lines
one_line b [] h = rw (or_parts (is_feed b) (is_return b && false) h.0).0 refl
one_line b (c ∷ p) h = rw (or_parts (is_feed b) (is_return b && front is_feed (c ∷ (p ++ []))) h.0).0 (ap (put_byte b) (one_line c p h.1))

some_line : (l : List ℕ) → is_empty l ≡ false → NoneIn ends_line l [] → text_lines (l ++ []) ≡ l ∷ []
some_line l some h = search (rules, false≢true, append-nil, one_line)

pub gap_lines_of : (ls : RawLines) (rest : List ℕ) → AreGapLines ls rest → text_lines (joined ls) ≡ ls
unfolding text_lines
gap_lines_of [] rest h = refl
gap_lines_of (l ∷ ls) rest h = ⊎_elim {0, 0, 0}
    (λ e. lines_again l (joined ls) e ∙ ap (λ x. l ∷ x) (gap_lines_of ls rest h.1))
    (λ e.
    let none : ls ≡ [] = joined_some ls rest h.1 e.0 in
    ap (λ x. text_lines (l ++ joined x)) none ∙ (some_line l h.0.some e.1 ∙ ap (λ x. l ∷ x) (sym none)))
    (line_is l (joined ls ++ rest) h.0)

pub lines_before : (ls : RawLines) (rest y : List ℕ) → is_empty rest ≡ false → AreGapLines ls rest → text_lines (joined ls ++ y) ≡ ls ++ text_lines y
lines_before [] rest y some h = refl
lines_before (l ∷ ls) rest y some h = ⊎_elim {0, 0, 0}
    (λ e. ap text_lines (append_assoc l (joined ls) y) ∙ (lines_again l (joined ls ++ y) e ∙ ap (λ x. l ∷ x) (lines_before ls rest y some h.1)))
    (λ e. absurd (none_is (joined ls ++ rest) (some_after (joined ls) rest some) e.0))
    (line_is l (joined ls ++ rest) h.0)

all_closed : (ls : RawLines) (rest : List ℕ) → is_empty rest ≡ false → AreGapLines ls rest → ends_with_break ls ≡ true
unfolding ends_with_break
all_closed [] rest some h = refl
all_closed (l ∷ []) rest some h = ⊎_elim {0, 0, 0} (λ e. e) (λ e. absurd (none_is rest some e.0)) (line_is l rest h.0)
all_closed (l ∷ (m ∷ ls)) rest some h = all_closed (m ∷ ls) rest some h.1

pub gap_closed : (ls : RawLines) (rest : List ℕ) → AreGapLines ls rest → (ends_with_break ls ≡ true) ⊎ (rest ≡ [])
gap_closed ls rest h = ⊎_elim {0, 0, 0} (λ e. inl (all_closed ls rest e h)) (λ e. inr e) (empty_or rest)

-- a repaired gap is a gap
put_gap : (white comment p g rest : List ℕ) → IsLineEnd white comment p (g ++ rest) → IsGap g rest → IsGap (p ++ g) rest
put_gap white comment p g rest h k = ⊎_elim {0, 0, 0}
    (λ e. subst (λ (x : List ℕ). IsGap (x ++ g) rest) (sym (empty_is p e)) k)
    (λ e. record {
      lines = p ∷ k.lines;
      spelled = ap (λ x. p ++ x) k.spelled;
      each = (record { white = white; comment = comment; line = subst (λ (x : List ℕ). IsLineEnd white comment p (x ++ rest)) k.spelled h; some = e }, k.each);
    })
    (cases_Bool (is_empty p))

nothing_left : (keep : Bool) (m column : ℕ) (ls : RawLines) (rest : List ℕ) → AreGapLines ls rest → joined ls ++ rest ≡ [] → joined (repair keep m column ls) ++ rest ≡ []
unfolding repair
nothing_left keep m column ls rest h e = search (rules, joined_some)

abbrev EndOf : List ℕ → List ℕ → Type 0
EndOf p rest = (white comment : List ℕ) × IsLineEnd white comment p rest

blank_line : (m : ℕ) (l old new : List ℕ) → IsGapLine l old → (old ≡ [] → new ≡ []) → EndOf (repaired_blank m l) new
blank_line m l old new h none =
    let break : IsBreak h.line.break new = ⊎_elim {0, 0, 0} (λ e. inl e) (λ e. inr (e.0, none e.1)) h.line.ends in
    cond_both (is_short m l) l (past_white l) (λ x. EndOf x new)
    (λ _. (h.white, h.comment, record { break = h.line.break; spelled = h.line.spelled; blank = h.line.blank; as_comment = h.line.as_comment; ends = break }))
    (λ _. ([], h.comment, record { break = h.line.break; spelled = (past_line h.white h.comment l old h.line).0; blank = tt; as_comment = h.line.as_comment; ends = break }))

comment_line : (m column : ℕ) (l rest : List ℕ) → IsGapLine l rest → EndOf (repaired_comment m column l) rest
comment_line m column l rest h =
    cond_both (is_outdented_comment m l) l (replicate column 32 ++ past_white l) (λ x. EndOf x rest)
    (λ _. (h.white, h.comment, h.line))
    (λ _. (
      replicate column 32,
      h.comment,
      record {
        break = h.line.break;
        spelled = ap (λ x. replicate column 32 ++ x) (past_line h.white h.comment l rest h.line).0;
        blank =
            white_spaces column;
        as_comment = h.line.as_comment;
        ends = h.line.ends;
      },
    ))

pub repaired_gap : (keep : Bool) (m column : ℕ) (ls : RawLines) (rest : List ℕ) → AreGapLines ls rest → IsGap (joined (repair keep m column ls)) rest
unfolding repair
repaired_gap keep m column [] rest h = record { lines = []; spelled = refl; each = tt }
repaired_gap true m column (l ∷ ls) rest h = ⊎_elim {0, 0, 0}
    (λ b. rw b (repaired_gap true m column ls rest h.1))
    (λ b. let x = comment_line m column l (joined ls ++ rest) h.0 in
    rw b (put_gap x.0 x.1 (repaired_comment m column l) (joined ls) rest x.2 (record { lines = ls; spelled = refl; each = h.1 })))
    (cases_Bool (is_blank l))
repaired_gap false m column (l ∷ ls) rest h = ⊎_elim {0, 0, 0}
    (λ b.
    let gone = joined (repair false m column ls) in
    let x = blank_line m l (joined ls ++ rest) (gone ++ rest) h.0 (nothing_left false m column ls rest h.1) in
    rw b (put_gap x.0 x.1 (repaired_blank m l) gone rest x.2 (repaired_gap false m column ls rest h.1)))
    (λ b. let x = comment_line m column l (joined ls ++ rest) h.0 in
    rw b (put_gap x.0 x.1 (repaired_comment m column l) (joined ls) rest x.2 (record { lines = ls; spelled = refl; each = h.1 })))
    (cases_Bool (is_blank l))
