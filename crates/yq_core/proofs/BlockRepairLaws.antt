-- A repaired gap may come after a block scalar and keeps its comments.
use Rattle.std.proofs.Common.{◌≡◌, ℕ, zero, suc, ◌<◌, Bool, true, false, ◌||◌, eqb, List, [], ◌∷◌, ◌++◌, drop, replicate, refl, sym, ap}
use Rattle.std.proofs.Common.{◌∙◌, ⊎_elim, eqb-true, rules}
use Rattle.std.proofs.lemmas.Bool.{false≢true, cond_both, or_cases, false_from_ne_true, le-leb, or_right, lt-ltb, and_from, and_parts}
use Rattle.std.proofs.lemmas.Bool.{cases_Bool}
use Rattle.yq_core.proofs.RawLaws.{next_not_empty, ends_blank}
use Rattle.yq_core.proofs.SpaceLaws.{white_drop, spaces_blank, prefix_none, spaces_front, drop_front}
use Rattle.yq_core.specs.Block.{RawLines, is_empty_line, is_less_indented, ends_block}
use Rattle.yq_core.specs.BlockRepair.{AreGap, is_short, is_outdented_comment, repaired_blank, repaired_comment, repair, comment_lines}
use Rattle.yq_core.{specs.BlockRepair.comes_later, specs.Lines.{spaces, without_spaces, is_hash, is_blank}}
use Rattle.yq_core.{specs.Text.{ends_line, past_white, upto}, specs.declared.block_lines.TextIndent.TextIndent}

-- what begins with no space
no_spaces : (b : ℕ) (t : List ℕ) → eqb b 32 ≡ false → (spaces (b ∷ t) ≡ 0) × (without_spaces (b ∷ t) ≡ b ∷ t)
no_spaces b t h = let n = prefix_none (λ x. eqb x 32) b t h in (n, ap (λ k. drop k (b ∷ t)) n)

pub blank_empty : (f : TextIndent) (l : List ℕ) → is_blank l ≡ true → is_empty_line f (repaired_blank f.columns l) ≡ true
blank_empty f l h = search (rules, or_right, le-leb, false_from_ne_true, eqb-true, false≢true, no_spaces, and_from, cond_both, and_parts)

-- a comment line that is moved
moved : (f : TextIndent) (column : ℕ) (t : List ℕ) → column < f.columns → is_hash t ≡ true → is_less_indented f (replicate column 32 ++ t) ≡ true
moved f column t h1 h2 = search (rules, false≢true, eqb-true, no_spaces, spaces_front, drop_front, lt-ltb, and_from)

pub ends_less : (keep : Bool) (f : TextIndent) (l : List ℕ) (ls : RawLines) → is_less_indented f l ≡ true → ends_block keep f (l ∷ ls) ≡ true
unfolding ends_block
ends_less keep f l ls h = rw (next_not_empty f l h) h

pub following_ends : (keep : Bool) (f : TextIndent) (rest : RawLines) → comes_later f rest ≡ true → ends_block keep f rest ≡ true
unfolding ends_block
following_ends keep f rest h = search rules

pub comment_less : (f : TextIndent) (column : ℕ) (l : List ℕ) → is_blank l ≡ false → (is_blank l || is_hash (past_white l)) ≡ true → column < f.columns → is_less_indented f (repaired_comment f.columns column l) ≡ true
comment_less f column l n h lt = search (rules, and_parts, false_from_ne_true, false≢true, spaces_blank, and_from, ⊎_elim, or_cases, cond_both, moved)

first_comment : (keep : Bool) (f : TextIndent) (column : ℕ) (l : List ℕ) (ls : RawLines) → is_blank l ≡ false → (is_blank l || is_hash (past_white l)) ≡ true → column < f.columns →
    ends_block keep f (repaired_comment f.columns column l ∷ ls) ≡ true
first_comment keep f column l ls n h lt = ends_less keep f _ ls (comment_less f column l n h lt)

-- the repaired gap before what follows it
pub repair_ends : (keep : Bool) (f : TextIndent) (column : ℕ) (gap rest : RawLines) → AreGap gap → comes_later f rest ≡ true → column < f.columns → ends_block keep f (repair keep f.columns column gap ++ rest) ≡ true
unfolding repair
repair_ends keep f column [] rest h e lt = following_ends keep f rest e
repair_ends true f column (l ∷ ls) rest h e lt = search (rules, ⊎_elim, first_comment, cases_Bool, repair_ends true f column ls rest h.1 e lt)
repair_ends false f column (l ∷ ls) rest h e lt =
    search (rules, ends_blank, blank_empty, first_comment, cases_Bool, repair_ends false f column ls rest h.1 e lt)

-- the comments stay
end_blank : (t : List ℕ) → ends_line t ≡ true → is_blank t ≡ true
unfolding upto
end_blank t h1 = search (rules, false_from_ne_true, eqb-true, false≢true, spaces_blank, no_spaces)

pub white_front : (n : ℕ) (t : List ℕ) → past_white (replicate n 32 ++ t) ≡ past_white t
white_front zero t = refl
white_front (suc n) t = white_drop 32 (replicate n 32 ++ t) ∙ white_front n t

abbrev SameComment : List ℕ → List ℕ → Type 0
SameComment l x = (is_blank x ≡ false) × (past_white x ≡ past_white l)

moved_same : (column : ℕ) (l : List ℕ) → is_hash (past_white l) ≡ true → SameComment l (replicate column 32 ++ past_white l)
unfolding upto
moved_same column l h = search (rules, white_front)

comment_same : (f : TextIndent) (column : ℕ) (l : List ℕ) → is_blank l ≡ false → (is_blank l || is_hash (past_white l)) ≡ true → SameComment l (repaired_comment f.columns column l)
comment_same f column l n h =
    let hash : is_hash (past_white l) ≡ true = ⊎_elim {0, 0, 0} (λ b. absurd (false≢true (sym n ∙ b))) (λ b. b) (or_cases (is_blank l) (is_hash (past_white l)) h) in
    cond_both (is_outdented_comment f.columns l) l (replicate column 32 ++ past_white l) (SameComment l) (λ _. (n, refl)) (λ _. moved_same column l hash)

same_first : (l x : List ℕ) (ls : RawLines) → SameComment l x → comment_lines (x ∷ ls) ≡ past_white l ∷ comment_lines ls
unfolding comment_lines
same_first l x ls h = rw h.0 (ap (λ y. y ∷ comment_lines ls) h.1)

pub repair_comments : (keep : Bool) (f : TextIndent) (column : ℕ) (gap : RawLines) → AreGap gap → comment_lines (repair keep f.columns column gap) ≡ comment_lines gap
unfolding repair comment_lines
repair_comments keep f column [] h = refl
repair_comments true f column (l ∷ ls) h = search (rules, ⊎_elim, same_first, comment_same, cases_Bool, repair_comments true f column ls h.1)
repair_comments false f column (l ∷ ls) h = ⊎_elim {0, 0, 0}
    (λ b. let stays_ : is_blank (repaired_blank f.columns l) ≡ true = cond_both (is_short f.columns l) l (past_white l) (λ x. is_blank x ≡ true) (λ _. b) (λ _. end_blank (past_white l) b) in
    rw b (rw stays_ (repair_comments false f column ls h.1)))
    (λ b. rw b (same_first l (repaired_comment f.columns column l) ls (comment_same f column l b h.0)))
    (cases_Bool (is_blank l))
