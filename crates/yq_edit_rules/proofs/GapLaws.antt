-- The head comment of the gap that stays where rows are taken out.
use Rattle.std.proofs.Common.{rules, ◌≡◌, ℕ, Bool, true, false, ◌&&◌, List, [], ◌∷◌, ◌++◌, Option, Some, None, refl, sym, ap, ◌∙◌, subst}
use Rattle.std.{proofs.Common.{⊎_elim, replicate}, proofs.lemmas.Bool.{false≢true, cond_both, cond-true, cond-false, and_parts, cases_Bool}}
use Rattle.yq_core.{specs.Block.{BlockText, RawLines, keeps}, specs.BlockRepair.{AreGap, is_short, is_outdented_comment, repair}}
use Rattle.yq_core.{specs.Lines.{is_hash, is_blank}, specs.Text.{is_break, is_empty, is_line, joined, text_lines, past_white}}
use Rattle.yq_core.{proofs.LineLaws.lines_again, proofs.BlockRepairText.{line_past, line_spaces}}
use Rattle.yq_outline.{specs.Comments.{are_comments, head_comment, last_comments}, proofs.HeadLaws.{comments_after, head_repaired}}
use Rattle.yq_row_table.{specs.Gap.{IsGapLine, AreGapLines, IsGap}, specs.Removal.{hold_comment, seam_gap}}
use Rattle.yq_row_table.{proofs.seams.GapSeams.{gap_kinds, gap_lines_of}, proofs.seams.GapFronts.lines_joined_of}
use Rattle.yq_row_table.{proofs.NothingLaws.some_after, proofs.seams.SeamLaws.line_by_break, proofs.EmptyTexts.none_is}
use Rattle.yq_documents.specs.Pieces.{before_run}

-- the head comment of a gap, in front of which lines are that end in no comment
pub head_joined : (kept next x : List ℕ) → IsGap kept x → is_empty x ≡ false → head_comment kept ≡ [] → head_comment (kept ++ next) ≡ head_comment next
head_joined kept next x k some none = ap last_comments (lines_joined_of kept next x some k) ∙ comments_after (text_lines kept) (text_lines next) none

-- the lines before the run that ends a gap
all_before : (ls : RawLines) → are_comments (before_run ls) ≡ true → are_comments ls ≡ true
all_before [] h = refl
all_before (l ∷ ls) h = ⊎_elim {0, 0, 0}
    (λ e. e)
    (λ e.
    let more : are_comments (l ∷ before_run ls) ≡ true = ap are_comments (sym (cond-false _ _ _ e)) ∙ h in
    let parts = and_parts (is_hash (past_white l)) (are_comments (before_run ls)) more in
    absurd (false≢true (sym e ∙ (λ i. parts.0 i && all_before ls parts.1 i))))
    (cases_Bool (are_comments (l ∷ ls)))

pub none_before : (ls : RawLines) → last_comments (before_run ls) ≡ []
none_before [] = refl
none_before (l ∷ ls) = search (rules, cond-true, and_parts, false≢true, all_before, cases_Bool, cond-false, none_before ls)

-- each line has its break
abbrev AreLines : RawLines → Type 0
AreLines [] = Unit {0}
AreLines (l ∷ ls) = (is_line l ≡ true) × AreLines ls

joined_lines : (ls : RawLines) → AreLines ls → text_lines (joined ls) ≡ ls
unfolding text_lines
joined_lines [] h = refl
joined_lines (l ∷ ls) h = lines_again l (joined ls) h.0 ∙ ap (λ (x : RawLines). l ∷ x) (joined_lines ls h.1)

gap_line : (l rest : List ℕ) → is_empty rest ≡ false → IsGapLine l rest → is_line l ≡ true
gap_line l rest some h = ⊎_elim {0, 0, 0}
    (λ e. line_by_break h.white h.comment l rest h.line ∙ (and_parts (is_break h.line.break) (is_line h.line.break) e).1)
    (λ e. absurd (none_is rest some e.1))
    h.line.ends

gap_lines : (ls : RawLines) (rest : List ℕ) → is_empty rest ≡ false → AreGapLines ls rest → AreLines ls
gap_lines [] rest some h = tt
gap_lines (l ∷ ls) rest some h = (gap_line l (joined ls ++ rest) (some_after (joined ls) rest some) h.0, gap_lines ls rest some h.1)

repaired_lines : (keep : Bool) (m column : ℕ) (ls : RawLines) → AreLines ls → AreLines (repair keep m column ls)
unfolding repair
repaired_lines keep m column [] h = tt
repaired_lines true m column (l ∷ ls) h = search (rules, cond_both, line_spaces, line_past, cases_Bool, repaired_lines true m column ls h.1)
repaired_lines false m column (l ∷ ls) h = ⊎_elim {0, 0, 0}
    (λ b. rw b (cond_both (is_short m l) l (past_white l) (λ x. is_line x ≡ true) (λ _. h.0) (λ _. line_past l h.0), repaired_lines false m column ls h.1))
    (λ b. rw b (cond_both (is_outdented_comment m l) l (replicate column 32 ++ past_white l) (λ x. is_line x ≡ true) (λ _. h.0) (λ _. line_spaces column (past_white l) (line_past l h.0)), h.1))
    (cases_Bool (is_blank l))

-- The gap that stays has the head comment of the next one, where something comes after that.
pub head_left : (o : Option BlockText) (column : ℕ) (ks : RawLines) (x next rest : List ℕ) → AreGapLines ks x → is_empty x ≡ false → last_comments ks ≡ [] → IsGap next rest → is_empty rest ≡ false →
    head_comment (seam_gap o column (joined ks) next) ≡ head_comment next
head_left o column ks x next rest k some none n after = go o
  where
    kept : IsGap (joined ks) x
    kept = record { lines = ks; spelled = refl; each = k }

    bare : head_comment (joined ks) ≡ []
    bare = ap last_comments (gap_lines_of ks x k) ∙ none

    own : text_lines next ≡ n.lines
    own = ap text_lines n.spelled ∙ gap_lines_of n.lines rest n.each

    go : (o : Option BlockText) → head_comment (seam_gap o column (joined ks) next) ≡ head_comment next
    go None = head_joined (joined ks) next x kept some bare
    go (Some b) =
        let mended : RawLines = repair (keeps b.chomping) b.indent.columns column (text_lines next) in
        let lines : AreLines (text_lines next) = subst AreLines (sym own) (gap_lines n.lines rest after n.each) in
        cond_both (hold_comment (text_lines (joined ks))) (joined ks ++ next) (joined ks ++ joined mended) (λ g. head_comment g ≡ head_comment next)
        (λ _. head_joined (joined ks) next x kept some bare)
        (λ _. head_joined (joined ks) (joined mended) x kept some bare
        ∙ (ap last_comments (joined_lines mended (repaired_lines (keeps b.chomping) b.indent.columns column (text_lines next) lines))
        ∙ head_repaired (keeps b.chomping) b.indent.columns column (text_lines next) (subst AreGap (sym own) (gap_kinds n.lines rest n.each))))
