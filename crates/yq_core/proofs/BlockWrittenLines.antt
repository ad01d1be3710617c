-- A line that is written, and what it means.
use Rattle.std.proofs.lemmas.Grind.{common_steps}
use Rattle.std.proofs.Common.{◌≡◌, ℕ, suc, true, false, eqb, min, List, [], ◌∷◌, ◌++◌, length, replicate, refl, sym, ap, ◌∙◌, subst, inr}
use Rattle.std.proofs.Common.{◌⊎◌, ⊎_elim, arith, eqb-true, append_assoc, rules}
use Rattle.std.proofs.lemmas.Bool.{false≢true, cond_both, false_from_ne_true, leb-true, le-leb, and_from, and_parts}
use Rattle.std.proofs.Math.Seq.{take-append_seam}
use Rattle.yq_core.{proofs.SpaceLaws.{spaces_front, drop_front}, specs.Block.{RawLines, is_text_line, IsRawLine}}
use Rattle.yq_core.{specs.BlockContent.{text_of_line, part_of, optional_break}, specs.BlockWritten.{break_text, indented_text}}
use Rattle.yq_core.{specs.Text.{ends_line, text_lines, put_byte, is_line, upto}, specs.declared.block_lines.TextIndent.TextIndent}
use Rattle.yq_core.{specs.declared.block_types.Break.Break, proofs.BlockRepairText.line_spaces}

-- neither LF nor CR
abbrev pub IsText : List ℕ → Type 0
IsText [] = Unit {0}
IsText (b ∷ p) = (eqb b 10 ≡ false) × (eqb b 13 ≡ false) × IsText p

-- a break
abbrev pub IsBreak : List ℕ → Type 0
IsBreak br = (br ≡ 10 ∷ []) ⊎ (br ≡ 13 ∷ 10 ∷ [])

pub break_is : (b : Break) → IsBreak (break_text b)
break_is b = search rules

break_line : (br : List ℕ) → IsBreak br → is_line br ≡ true
unfolding is_line
break_line br h = ⊎_elim {0, 0, 0} (λ e. rw e refl) (λ e. rw e refl) h

text_line : (p br : List ℕ) → IsText p → IsBreak br → is_line (p ++ br) ≡ true
unfolding is_line
text_line [] br h b = break_line br b
text_line (x ∷ p) br h b = rw h.0 (text_line p br h.2 b)

body_text : (p br : List ℕ) → IsText p → IsBreak br → upto ends_line (p ++ br) ≡ length p
unfolding upto
body_text [] br h b = ⊎_elim {0, 0, 0} (λ e. rw e refl) (λ e. rw e refl) b
body_text (x ∷ p) br h b = rw (h.0, h.1) (ap suc (body_text p br h.2 b))

-- a line that is written
abbrev pub explicit_indent : ℕ → TextIndent
explicit_indent m = record { columns = m; known = true }

pub not_end : (b : ℕ) (t : List ℕ) → eqb b 10 ≡ false → eqb b 13 ≡ false → ends_line (b ∷ t) ≡ false
not_end b t h k = rw (h, k) refl

pub some_text : (m b : ℕ) (p br : List ℕ) → IsText (b ∷ p) → is_text_line (explicit_indent m) (replicate m 32 ++ ((b ∷ p) ++ br)) ≡ true
some_text m b p br h = search (rules, false_from_ne_true, and_parts, leb-true, spaces_front, drop_front, false≢true, not_end, le-leb, and_from)

pub line_regroup : (m : ℕ) (p br : List ℕ) → (replicate m 32 ++ p) ++ br ≡ replicate m 32 ++ (p ++ br)
line_regroup m p br = append_assoc (replicate m 32) p br

pub indented_some : (m x : ℕ) (p : List ℕ) → indented_text m (x ∷ p) ≡ replicate m 32 ++ (x ∷ p)
indented_some m x p = search (rules, false_from_ne_true, eqb-true)

pub indented_raw : (m : ℕ) (p br : List ℕ) → IsText p → IsBreak br → IsRawLine (explicit_indent m) (indented_text m p ++ br)
indented_raw m [] br h b = search (rules, le-leb, ⊎_elim, break_line)
indented_raw m (x ∷ p) br h b =
    subst (IsRawLine (explicit_indent m)) (sym (ap (λ l. l ++ br) (indented_some m x p) ∙ line_regroup m (x ∷ p) br))
    (line_spaces m ((x ∷ p) ++ br) (text_line (x ∷ p) br h b), inr (some_text m x p br h))

-- it says its text
min_zero : (m : ℕ) → min m 0 ≡ 0
min_zero m = omega arith

pub indented_part : (m : ℕ) (p br : List ℕ) → IsText p → IsBreak br → part_of (explicit_indent m) (indented_text m p ++ br) ≡ p
unfolding upto
indented_part m p br h b = grind (arith, common_steps, min_zero, spaces_front, indented_some, line_regroup, drop_front, body_text, take-append_seam)

-- no CR is in it
abbrev pub NoCr : List ℕ → Type 0
NoCr [] = Unit {0}
NoCr (b ∷ s) = (eqb b 13 ≡ false) × NoCr s

-- a line of a text without CR is its text and, where it has one, its break
abbrev pub IsGood : List ℕ → Type 0
IsGood l = IsText (text_of_line l) × (l ≡ text_of_line l ++ optional_break (is_line l))

abbrev pub Good : RawLines → Type 0
Good [] = Unit {0}
Good (l ∷ ls) = IsGood l × Good ls

pub text_next : (b : ℕ) (l : List ℕ) → eqb b 10 ≡ false → eqb b 13 ≡ false → text_of_line (b ∷ l) ≡ b ∷ text_of_line l
unfolding upto
text_next b l e n = rw (e, n) refl

good_break : (b : ℕ) → eqb b 10 ≡ true → IsGood (b ∷ [])
unfolding upto is_line
good_break b e = let is : b ≡ 10 = eqb-true b 10 e in rw is (tt, refl)

good_put : (b : ℕ) (ls : RawLines) → eqb b 10 ≡ false → eqb b 13 ≡ false → Good ls → Good (put_byte b ls)
unfolding is_line upto
good_put b ls e n h = search (rules, text_next)

pub lines_good : (s : List ℕ) → NoCr s → Good (text_lines s)
unfolding text_lines
lines_good [] h = tt
lines_good (b ∷ s) h = cond_both (eqb b 10) ((b ∷ []) ∷ text_lines s) (put_byte b (text_lines s)) Good (λ e. (good_break b e, lines_good s h.1)) (λ e. good_put b (text_lines s) e h.0 (lines_good s h.1))
