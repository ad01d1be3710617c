-- A repaired gap in front of a text.
use Rattle.std.proofs.Common.{◌≡◌, ℕ, zero, suc, ◌<◌, Bool, true, false, ◌||◌, eqb, List, [], ◌∷◌, ◌++◌, replicate, ◌⊎◌, inl, inr, refl}
use Rattle.std.{proofs.Common.{sym, ap, ◌∙◌, ⊎_elim, append_assoc, append-nil, rules}, proofs.lemmas.Bool.{cond_both, cases_Bool}}
use Rattle.yq_core.{proofs.BlockRepairLaws.{comment_less, blank_empty, ends_less, following_ends}, proofs.Bools.at_byte}
use Rattle.yq_core.{proofs.LineLaws.{lines_again, joined_lines}, proofs.SpaceLaws.white_drop}
use Rattle.yq_core.specs.Block.{RawLines, keeps, ends_block, BlockText, IsBlock}
use Rattle.yq_core.specs.BlockRepair.{AreGap, is_short, is_outdented_comment, repaired_blank, repaired_comment, repair, comes_later}
use Rattle.yq_core.{specs.BlockWritten.ends_with_break, specs.Lines.{is_blank, is_hash}}
use Rattle.yq_core.specs.Text.{is_white, past_white, upto, text_lines, put_byte, joined, is_line}
use Rattle.yq_core.{specs.declared.block_lines.TextIndent.TextIndent, proofs.RawLaws.ends_blank}

-- no LF is in the text
abbrev NoFeed : List ℕ → Type 0
NoFeed [] = Unit {0}
NoFeed (b ∷ l) = (eqb b 10 ≡ false) × NoFeed l

-- a line with its break, or without one at the end of all
abbrev IsCut : List ℕ → RawLines → List ℕ → Type 0
IsCut l ls rest = (is_line l ≡ true) ⊎ (NoFeed l × (ls ≡ []) × (rest ≡ []))

abbrev AreCut : RawLines → List ℕ → Type 0
AreCut [] rest = Unit {0}
AreCut (l ∷ ls) rest = IsCut l ls rest × AreCut ls rest

-- lines with their breaks, or before the end
abbrev Closed : RawLines → List ℕ → Type 0
Closed ls rest = (ends_with_break ls ≡ true) ⊎ (rest ≡ [])

pub line_next : (b : ℕ) (l : List ℕ) → eqb b 10 ≡ false → is_line (b ∷ l) ≡ is_line l
unfolding is_line
line_next b l e = rw e refl

closed_tail : (l : List ℕ) (ls : RawLines) → ends_with_break (l ∷ ls) ≡ true → ends_with_break ls ≡ true
unfolding ends_with_break
closed_tail l ls h = search rules

closed_back : (b : ℕ) (ls : RawLines) → eqb b 10 ≡ false → ends_with_break (put_byte b ls) ≡ true → ends_with_break ls ≡ true
unfolding ends_with_break
closed_back b ls e h = search (rules, line_next)

cut_put : (b : ℕ) (ls : RawLines) (rest : List ℕ) → eqb b 10 ≡ false → Closed (put_byte b ls) rest → AreCut ls rest → AreCut (put_byte b ls) rest
unfolding ends_with_break
cut_put b ls rest e c h = search (rules, line_next)

lines_cut : (t rest : List ℕ) → Closed (text_lines t) rest → AreCut (text_lines t) rest
unfolding text_lines is_line
lines_cut [] rest c = tt
lines_cut (b ∷ t) rest c = ⊎_elim {0, 0, 0}
    (λ e. let c2 : Closed ((b ∷ []) ∷ text_lines t) rest = rw e at c in
    rw e (inl (rw e refl), lines_cut t rest (⊎_elim {0, 0, 0} (λ k. inl (closed_tail (b ∷ []) (text_lines t) k)) (λ k. inr k) c2)))
    (λ e. let c2 : Closed (put_byte b (text_lines t)) rest = rw e at c in
    rw e (cut_put b (text_lines t) rest e c2 (lines_cut t rest (⊎_elim {0, 0, 0} (λ k. inl (closed_back b (text_lines t) e k)) (λ k. inr k) c2))))
    (cases_Bool (eqb b 10))

-- white space taken off the front, or spaces put there
white_no_feed : (b : ℕ) → is_white b ≡ true → eqb b 10 ≡ false
white_no_feed b h = at_byte is_white b 10 h refl

pub line_past : (l : List ℕ) → is_line l ≡ true → is_line (past_white l) ≡ true
unfolding upto
line_past [] h = h
line_past (b ∷ l) h = ⊎_elim {0, 0, 0}
    (λ e. rw (white_drop b l) (rw e (line_past l (sym (line_next b l (white_no_feed b e)) ∙ h))))
    (λ e. rw (white_drop b l) (rw e h))
    (cases_Bool (is_white b))

open_past : (l : List ℕ) → NoFeed l → NoFeed (past_white l)
unfolding upto
open_past [] h = tt
open_past (b ∷ l) h = search (rules, white_drop, cases_Bool, open_past l h.1)

pub line_spaces : (n : ℕ) (t : List ℕ) → is_line t ≡ true → is_line (replicate n 32 ++ t) ≡ true
line_spaces zero t h = h
line_spaces (suc n) t h = line_next 32 (replicate n 32 ++ t) refl ∙ line_spaces n t h

open_spaces : (n : ℕ) (t : List ℕ) → NoFeed t → NoFeed (replicate n 32 ++ t)
open_spaces zero t h = h
open_spaces (suc n) t h = (refl, open_spaces n t h)

past_cut : (l : List ℕ) (ls : RawLines) (rest : List ℕ) → IsCut l ls rest → IsCut (past_white l) ls rest
past_cut l ls rest h = ⊎_elim {0, 0, 0} (λ is. inl (line_past l is)) (λ last. inr (open_past l last.0, last.1, last.2)) h

blank_cut : (m : ℕ) (l : List ℕ) (ls : RawLines) (rest : List ℕ) → IsCut l ls rest → IsCut (repaired_blank m l) ls rest
blank_cut m l ls rest h = cond_both (is_short m l) l (past_white l) (λ x. IsCut x ls rest) (λ _. h) (λ _. past_cut l ls rest h)

spaces_cut : (n : ℕ) (l : List ℕ) (ls : RawLines) (rest : List ℕ) → IsCut l ls rest → IsCut (replicate n 32 ++ l) ls rest
spaces_cut n l ls rest h = ⊎_elim {0, 0, 0} (λ is. inl (line_spaces n l is)) (λ last. inr (open_spaces n l last.0, last.1, last.2)) h

comment_cut : (m column : ℕ) (l : List ℕ) (ls : RawLines) (rest : List ℕ) → IsCut l ls rest → IsCut (repaired_comment m column l) ls rest
comment_cut m column l ls rest h =
    cond_both (is_outdented_comment m l) l (replicate column 32 ++ past_white l) (λ x. IsCut x ls rest) (λ _. h) (λ _. spaces_cut column (past_white l) ls rest (past_cut l ls rest h))

-- a line in front of lines and a rest, as lines
open_lines : (l : List ℕ) → NoFeed l → (text_lines l ≡ []) ⊎ (text_lines l ≡ l ∷ [])
unfolding text_lines
open_lines [] h = inl refl
open_lines (b ∷ []) h = inr (rw h.0 refl)
open_lines (b ∷ c ∷ l) h = search (rules, ⊎_elim, joined_lines, open_lines (c ∷ l) h.1)

abbrev Ends : Bool → TextIndent → List ℕ → Type 0
Ends keep f t = ends_block keep f (text_lines t) ≡ true

cut_front : (keep : Bool) (f : TextIndent) (x : List ℕ) (ls : RawLines) (j rest : List ℕ) → IsCut x ls rest → (ls ≡ [] → j ≡ []) →
    ends_block keep f (x ∷ text_lines (j ++ rest)) ≡ true → ends_block keep f (x ∷ []) ≡ true → Ends keep f ((x ++ j) ++ rest)
unfolding ends_block
cut_front keep f x ls j rest cut h7 whole one = search (rules, append_assoc, lines_again, append-nil, open_lines)

no_joined : (ls : RawLines) → ls ≡ [] → joined ls ≡ []
no_joined ls e = ap joined e

no_repair : (m column : ℕ) (ls : RawLines) → ls ≡ [] → joined (repair false m column ls) ≡ []
unfolding repair
no_repair m column ls e = ap (λ x. joined (repair false m column x)) e

ends_comment : (keep : Bool) (f : TextIndent) (column : ℕ) (l : List ℕ) (ls : RawLines) (rest : List ℕ) → IsCut l ls rest → is_blank l ≡ false → (is_blank l || is_hash (past_white l)) ≡ true → column < f.columns →
    Ends keep f ((repaired_comment f.columns column l ++ joined ls) ++ rest)
ends_comment keep f column l ls rest cut n h lt =
    let x = repaired_comment f.columns column l in
    let less = comment_less f column l n h lt in
    cut_front keep f x ls (joined ls) rest (comment_cut f.columns column l ls rest cut) (no_joined ls) (ends_less keep f x (text_lines (joined ls ++ rest)) less) (ends_less keep f x [] less)

-- the lines of a repaired gap
gap_ends : (keep : Bool) (f : TextIndent) (column : ℕ) (gap : RawLines) (rest : List ℕ) → AreCut gap rest → AreGap gap → comes_later f (text_lines rest) ≡ true → column < f.columns →
    Ends keep f (joined (repair keep f.columns column gap) ++ rest)
unfolding repair ends_block
gap_ends keep f column [] rest cut are after lt = following_ends keep f (text_lines rest) after
gap_ends true f column (l ∷ ls) rest cut are after lt = search (rules, ends_comment, cases_Bool, gap_ends true f column ls rest cut.1 are.1 after lt)
gap_ends false f column (l ∷ ls) rest cut are after lt = ⊎_elim {0, 0, 0}
    (λ b.
    let x = repaired_blank f.columns l in
    let gone = joined (repair false f.columns column ls) in
    let empty = blank_empty f l b in
    let again : Ends false f (gone ++ rest) = gap_ends false f column ls rest cut.1 are.1 after lt in
    let whole : Ends false f ((x ++ gone) ++ rest) =
    cut_front false f x ls gone rest (blank_cut f.columns l ls rest cut.0) (no_repair f.columns column ls)
    (ends_blank f x (text_lines (gone ++ rest)) empty again) (ends_blank f x [] empty refl) in
    rw b whole)
    (λ b. rw b (ends_comment false f column l ls rest cut.0 b are.0 lt))
    (cases_Bool (is_blank l))

-- the block scalar in front of it
pub repair_is_there : (least column : ℕ) (b : BlockText) (old gap rest : List ℕ) → IsBlock least b old → AreGap (text_lines gap) → Closed (text_lines gap) rest → comes_later b.indent (text_lines rest) ≡ true → column < b.indent.columns →
    IsBlock least b (joined (repair (keeps b.chomping) b.indent.columns column (text_lines gap)) ++ rest)
repair_is_there least column b old gap rest is are shut after lt = search (rules, gap_ends, lines_cut)
