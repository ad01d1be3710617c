-- A gap without a final break, with one after it: it is a gap before any text, and ends in the same comment.
use Rattle.std.proofs.lemmas.Grind.{common_steps}
use Rattle.std.proofs.Common.{arith, ◌≡◌, ◌&&◌, inr, eqb, List, [], ◌∷◌, ◌++◌, ℕ, is_some, true, false, cond, refl, sym, ap, ◌∙◌, subst}
use Rattle.std.{proofs.Common.{append_assoc, append-nil, ⊎_elim, rules}, proofs.lemmas.Bool.false≢true}
use Rattle.yq_core.{specs.BlockWritten.break_text, specs.Characters.pairs_returns, specs.Text.{front, joined, past_white, with_first}}
use Rattle.yq_core.specs.declared.block_types.Break.{Break}
use Rattle.yq_outline.specs.Comments.{comment_text, are_comments, last_comments, head_comment}
use Rattle.yq_row_table.{specs.Gap.{IsComment, IsGapLine, AreGapLines, IsGap}, proofs.CharacterLaws.pairs_back}
use Rattle.yq_row_table.{proofs.NothingLaws.line_end_other, proofs.seams.GapFronts.gap_lines, proofs.GapLaws.some_more}
use Rattle.yq_edit_rules.{proofs.EndLaws.comment_is, specs.ClosedTexts.is_closed_text, proofs.BreakLaws.break_is as break_kind}
use Rattle.yq_edit_rules.{proofs.BrokenTails.comment_other, proofs.CommentReadLaws.break_is}
use Rattle.yq_edit_laws.proofs.UnwrittenRootLaws.{closed_after, closed_end}

-- lines, of which the last one gets a break
abbrev pub broken_lines : List (List ℕ) → List ℕ → List (List ℕ)
broken_lines [] b = []
broken_lines (l ∷ []) b = (l ++ b) ∷ []
broken_lines (l ∷ (k ∷ ls)) b = l ∷ broken_lines (k ∷ ls) b

joined_broken : (l : List ℕ) (ls : List (List ℕ)) (b : List ℕ) → joined (broken_lines (l ∷ ls) b) ≡ joined (l ∷ ls) ++ b
joined_broken l [] b = append-nil (l ++ b) ∙ ap (λ x. x ++ b) (sym (append-nil l))
joined_broken l (k ∷ ls) b = ap (λ x. l ++ x) (joined_broken k ls b) ∙ sym (append_assoc l (joined (k ∷ ls)) b)

-- ---- its last line

-- a line without a break is white space and a comment
no_break : (l : List ℕ) (h : IsGapLine l []) → is_closed_text l ≡ false → h.line.break ≡ []
no_break l h open' = ⊎_elim {0, 0, 0}
    (λ k. absurd (false≢true (sym open' ∙ (ap is_closed_text (h.line.spelled ∙ sym (append_assoc h.white h.comment h.line.break)) ∙ closed_end (h.white ++ h.comment) h.line.break (break_kind h.line.break k)))))
    (λ e. e.0)
    h.line.ends

module _ (l : List ℕ) (h : IsGapLine l []) (open' : is_closed_text l ≡ false) (pairs : pairs_returns l ≡ true) (br : Break) where
  none : h.line.break ≡ []
  none = no_break l h open'

  bare : l ≡ h.white ++ h.comment
  bare = h.line.spelled ∙ (ap (λ x. h.white ++ (h.comment ++ x)) none ∙ ap (λ x. h.white ++ x) (append-nil h.comment))

  old_comment : IsComment h.comment []
  old_comment = subst (IsComment h.comment) none h.line.as_comment

  as_comment : IsComment h.comment (break_text br)
  as_comment = comment_other h.comment [] [] (break_text br) (ap pairs_returns (append-nil h.comment) ∙ pairs_back h.white h.comment (ap pairs_returns (sym bare) ∙ pairs)) old_comment (inr (refl, refl))

  spelled : l ++ break_text br ≡ h.white ++ (h.comment ++ break_text br)
  spelled = ap (λ x. x ++ break_text br) bare ∙ append_assoc h.white h.comment (break_text br)

  last_broken : (x : List ℕ) → IsGapLine (l ++ break_text br) x
  last_broken x = search (rules, spelled, as_comment, break_is, some_more)

  same_text : comment_text (l ++ break_text br) ≡ comment_text l
  same_text = search (rules, spelled, comment_is, as_comment, break_is, old_comment, append-nil, bare)

-- a line is a comment line where it has the text of one
text_there : (l : List ℕ) → is_some (comment_text l) ≡ front (λ b. eqb b 35) (past_white l)
text_there l = search rules

-- ---- its lines

lines_broken : (l : List ℕ) (ls : List (List ℕ)) (x : List ℕ) (br : Break) → AreGapLines (l ∷ ls) [] → is_closed_text (joined (l ∷ ls)) ≡ false → pairs_returns (joined (l ∷ ls)) ≡ true →
    AreGapLines (broken_lines (l ∷ ls) (break_text br)) x × (last_comments (broken_lines (l ∷ ls) (break_text br)) ≡ last_comments (l ∷ ls)) × (are_comments (broken_lines (l ∷ ls) (break_text br)) ≡ are_comments (l ∷ ls))
lines_broken l [] x br h open' pairs =
    let own : is_closed_text l ≡ false = ap is_closed_text (sym (append-nil l)) ∙ open' in
    let two : pairs_returns l ≡ true = ap pairs_returns (sym (append-nil l)) ∙ pairs in
    let text : comment_text (l ++ break_text br) ≡ comment_text l = same_text l h.0 own two br in
    let marks : front (λ b. eqb b 35) (past_white (l ++ break_text br)) ≡ front (λ b. eqb b 35) (past_white l) = sym (text_there (l ++ break_text br)) ∙ (ap is_some text ∙ text_there l) in (
      (last_broken l h.0 own two br x, tt),
      (λ i. cond (marks i && true) (with_first (text i) []) []),
      ap (λ b. b && true) marks,
    )
lines_broken l (k ∷ ls) x br h open' pairs =
    grind (arith, common_steps, some_more, closed_after, pairs_back, joined_broken, line_end_other, lines_broken k ls x br h.1)

-- ---- the gap

pub open_gap : (p x : List ℕ) (br : Break) → IsGap p [] → is_closed_text p ≡ false → pairs_returns p ≡ true → IsGap (p ++ break_text br) x × (head_comment (p ++ break_text br) ≡ head_comment p)
unfolding is_closed_text
open_gap p x br h open' pairs = go h.lines h.spelled h.each
  where
    go : (ls : List (List ℕ)) → p ≡ joined ls → AreGapLines ls [] → IsGap (p ++ break_text br) x × (head_comment (p ++ break_text br) ≡ head_comment p)
    go [] is each = absurd (false≢true (sym open' ∙ ap is_closed_text is))
    go (l ∷ ls) is each =
        let w = lines_broken l ls x br each (ap is_closed_text (sym is) ∙ open') (ap pairs_returns (sym is) ∙ pairs) in
        let text : p ++ break_text br ≡ joined (broken_lines (l ∷ ls) (break_text br)) = ap (λ t. t ++ break_text br) is ∙ sym (joined_broken l ls (break_text br)) in
        let new : IsGap (p ++ break_text br) x = record { lines = broken_lines (l ∷ ls) (break_text br); spelled = text; each = w.0 } in
        (new, ap last_comments (gap_lines (p ++ break_text br) x new) ∙ (w.1 ∙ ap last_comments (sym (gap_lines p [] (record { lines = l ∷ ls; spelled = is; each = each })))))
