-- The comment lines that end lines, after others, or where the lines are repaired.
use Rattle.std.proofs.Common.{◌≡◌, ℕ, Bool, true, false, ◌&&◌, List, [], ◌∷◌, ◌++◌, Option, Some, refl, sym, ap, ◌∙◌, ⊎_elim, replicate}
use Rattle.std.proofs.Common.{eqb-true, rules}
use Rattle.std.proofs.lemmas.Bool.{false≢true, cond_both, cond-true, cond-false, false_from_ne_true, and_parts, cases_Bool}
use Rattle.yq_core.specs.Block.{RawLines}
use Rattle.yq_core.specs.BlockRepair.{AreGap, is_short, is_outdented_comment, repaired_blank, repaired_comment, repair}
use Rattle.yq_core.{specs.Lines.{is_hash, is_blank}, specs.Text.{upto, ends_line, past_white, with_first}, proofs.SpaceLaws.white_drop}
use Rattle.yq_core.proofs.BlockRepairLaws.{white_front}
use Rattle.yq_outline.specs.Comments.{are_comments, last_comments}

-- lines after lines
all_following : (ls ms : RawLines) → are_comments ls ≡ false → are_comments (ls ++ ms) ≡ false
all_following [] ms h = absurd (false≢true (sym h))
all_following (l ∷ ls) ms h = ⊎_elim {0, 0, 0}
    (λ e. let more : are_comments ls ≡ false = rw e at h in rw e (all_following ls ms more))
    (λ e. rw e refl)
    (cases_Bool (is_hash (past_white l)))

some_text : (o : Option (List ℕ)) (t : List ℕ) (ts : RawLines) → o ≡ Some t → with_first o ts ≡ [] → ⊥
some_text x t ts e h = absurd (cc)

no_run : (l : List ℕ) (ls : RawLines) → last_comments (l ∷ ls) ≡ [] → are_comments (l ∷ ls) ≡ false
no_run l ls h = search (rules, false_from_ne_true, and_parts, some_text, cond-true)

pub comments_after : (ls ms : RawLines) → last_comments ls ≡ [] → last_comments (ls ++ ms) ≡ last_comments ms
comments_after [] ms h = refl
comments_after (l ∷ ls) ms h =
    let none = no_run l ls h in
    let more : last_comments ls ≡ [] = sym (cond-false _ _ _ none) ∙ h in
    cond-false _ _ _ (all_following (l ∷ ls) ms none) ∙ comments_after ls ms more

-- a line with other white space in front
same_line : (l x : List ℕ) (ls : RawLines) → past_white x ≡ past_white l → last_comments (x ∷ ls) ≡ last_comments (l ∷ ls)
same_line l x ls h = rw h refl

past_again : (l : List ℕ) → past_white (past_white l) ≡ past_white l
unfolding upto
past_again [] = refl
past_again (b ∷ l) = search (rules, white_drop, cases_Bool, past_again l)

comment_past : (m column : ℕ) (l : List ℕ) → past_white (repaired_comment m column l) ≡ past_white l
comment_past m column l = cond_both (is_outdented_comment m l) l (replicate column 32 ++ past_white l) (λ x. past_white x ≡ past_white l) (λ _. refl) (λ _. white_front column (past_white l) ∙ past_again l)

pub end_no_hash : (t : List ℕ) → ends_line t ≡ true → is_hash t ≡ false
end_no_hash t h1 = search (rules, false_from_ne_true, eqb-true, false≢true)

blank_off : (l : List ℕ) (ls : RawLines) → is_blank l ≡ true → last_comments (l ∷ ls) ≡ last_comments ls
blank_off l ls h = cond-false _ _ _ (ap (λ b. b && are_comments ls) (end_no_hash (past_white l) h))

pub head_repaired : (keep : Bool) (m column : ℕ) (ls : RawLines) → AreGap ls → last_comments (repair keep m column ls) ≡ last_comments ls
unfolding repair
head_repaired keep m column [] h = refl
head_repaired true m column (l ∷ ls) h = ⊎_elim {0, 0, 0}
    (λ b. rw b (head_repaired true m column ls h.1 ∙ sym (blank_off l ls b)))
    (λ b. rw b (same_line l (repaired_comment m column l) ls (comment_past m column l)))
    (cases_Bool (is_blank l))
head_repaired false m column (l ∷ ls) h = ⊎_elim {0, 0, 0}
    (λ b.
    let blank : is_blank (repaired_blank m l) ≡ true =
    ap ends_line (cond_both (is_short m l) l (past_white l) (λ x. past_white x ≡ past_white l) (λ _. refl) (λ _. past_again l)) ∙ b in
    rw b (blank_off (repaired_blank m l) (repair false m column ls) blank ∙ (head_repaired false m column ls h.1 ∙ sym (blank_off l ls b))))
    (λ b. rw b (same_line l (repaired_comment m column l) ls (comment_past m column l)))
    (cases_Bool (is_blank l))
