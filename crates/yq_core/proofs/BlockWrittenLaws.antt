-- What is written is a block scalar and means the text.
use Rattle.std.proofs.Common.{◌≡◌, ℕ, ◌≤◌, Bool, true, false, cond, not, ◌&&◌, eqb, List, [], ◌∷◌, ◌++◌, length, refl, sym, ap, ◌∙◌, subst}
use Rattle.std.{proofs.Common.{⊎_elim, rules}, proofs.lemmas.Bool.{false≢true, not-true, and_parts, or_parts}}
use Rattle.yq_core.proofs.BlockWrittenLines.{IsText, IsBreak, break_is, explicit_indent, not_end, some_text, line_regroup, indented_some}
use Rattle.yq_core.proofs.BlockWrittenLines.{indented_raw, indented_part, NoCr, Good, text_next, lines_good}
use Rattle.yq_core.proofs.LineLaws.{joined_lines, AreLines, lines_are}
use Rattle.yq_core.proofs.SpaceLaws.{char_not_blank, prefix_none, spaces_front, drop_front}
use Rattle.yq_core.specs.Block.{RawLines, is_text_line, ends_block, AreRaw, no_lines, ends_in_text, IsDetected, keeps, is_tail, IsBlock}
use Rattle.yq_core.specs.BlockContent.{text_of_line, optional_break, literal, strips, block_content}
use Rattle.yq_core.specs.BlockWritten.{break_text, indented_text, raw_written, ends_with_break, chomping_by, written_block}
use Rattle.yq_core.{specs.Text.{is_white, text_lines, put_byte, joined}, specs.declared.block_types.Break.Break}

-- the text of the last line is not empty
unfoldable pub ends_some : RawLines → Bool
ends_some [] = false
ends_some (l ∷ ls) = cond (no_lines ls) (not (eqb (length (text_of_line l)) 0)) (ends_some ls)

-- the first character is neither white space nor LF
abbrev pub begins_char : List ℕ → Bool
begins_char [] = false
begins_char (b ∷ s) = not (is_white b) && not (eqb b 10)

-- what can be written so
pub record CanWrite (s : List ℕ) : Type 0 where
  pub begins : begins_char s ≡ true
  pub ends : ends_some (text_lines s) ≡ true
  pub plain : NoCr s

-- the lines that are written
written_raw : (m : ℕ) (br : List ℕ) (ls : RawLines) → IsBreak br → Good ls → AreRaw (explicit_indent m) (raw_written m br ls)
unfolding raw_written
written_raw m br [] b h = tt
written_raw m br (l ∷ ls) b h = (indented_raw m (text_of_line l) br h.0.0 b, written_raw m br ls b h.1)

text_some : (m : ℕ) (p br : List ℕ) → IsText p → not (eqb (length p) 0) ≡ true → is_text_line (explicit_indent m) (indented_text m p ++ br) ≡ true
text_some m [] br h some = absurd (false≢true some)
text_some m (x ∷ p) br h some = subst (λ (l : List ℕ). is_text_line (explicit_indent m) l ≡ true) (sym (ap (λ l. l ++ br) (indented_some m x p) ∙ line_regroup m (x ∷ p) br)) (some_text m x p br h)

written_ends : (m : ℕ) (br : List ℕ) (ls : RawLines) → Good ls → ends_some ls ≡ true → ends_in_text (explicit_indent m) (raw_written m br ls) ≡ true
unfolding raw_written ends_some
written_ends m br [] h e = refl
written_ends m br (l ∷ []) h e = text_some m (text_of_line l) br h.0.0 e
written_ends m br (l ∷ k ∷ ls) h e = written_ends m br (k ∷ ls) h.1 e

twice : (b : Bool) → optional_break (not (not b && true)) ≡ optional_break b
twice b = search rules

never : (b : Bool) → optional_break (not (b && false)) ≡ optional_break true
never b = search rules

written_says : (m : ℕ) (br : List ℕ) (ls : RawLines) → IsBreak br → Good ls → AreLines ls → literal (not (ends_with_break ls)) (explicit_indent m) (raw_written m br ls) ≡ joined ls
unfolding raw_written literal ends_with_break
written_says m br [] b h a = refl
written_says m br (l ∷ []) b h a = search (rules, twice, explicit_indent, indented_part, ⊎_elim, never)
written_says m br (l ∷ k ∷ ls) b h a = search (rules, explicit_indent, ⊎_elim, never, indented_part, written_says m br (k ∷ ls) b h.1 a.1)

-- the first line gives the indentation
put_first : (b : ℕ) (ls : RawLines) → (l : List ℕ) × (rest : RawLines) × (put_byte b ls ≡ (b ∷ l) ∷ rest)
put_first b [] = ([], [], refl)
put_first b (l ∷ ls) = (l, ls, refl)

first_line : (b : ℕ) (s : List ℕ) → eqb b 10 ≡ false → (l : List ℕ) × (ls : RawLines) × (text_lines (b ∷ s) ≡ (b ∷ l) ∷ ls)
unfolding text_lines
first_line b s e = let f = put_first b (text_lines s) in (f.0, f.1, rw e f.2)

written_detected : (least m b : ℕ) (br l : List ℕ) (ls : RawLines) → least ≤ m → is_white b ≡ false → eqb b 10 ≡ false → eqb b 13 ≡ false → IsDetected least (explicit_indent m) (raw_written m br ((b ∷ l) ∷ ls))
unfolding raw_written
written_detected least m b br l ls le white e n =
    search (rules, or_parts, prefix_none, explicit_indent, text_next, indented_some, line_regroup, spaces_front, drop_front, char_not_blank, not_end)

written_indent : (least m : ℕ) (br s : List ℕ) → least ≤ m → begins_char s ≡ true → NoCr s → IsDetected least (explicit_indent m) (raw_written m br (text_lines s))
written_indent least m br [] le h n = absurd (false≢true h)
written_indent least m br (b ∷ s) le h n =
    let parts = and_parts (not (is_white b)) (not (eqb b 10)) h in
    let lf : eqb b 10 ≡ false = not-true (eqb b 10) parts.1 in
    let f = first_line b s lf in
    subst (λ ls. IsDetected least (explicit_indent m) (raw_written m br ls)) (sym f.2) (written_detected least m b br f.0 f.1 le (not-true (is_white b) parts.0) lf n.0)

clips : (c : Bool) → (keeps (chomping_by c) ≡ false) × (strips (chomping_by c) ≡ not c)
clips c = search rules

pub written_is : (least m : ℕ) (b : Break) (s tail rest : List ℕ) → CanWrite s → least ≤ m → is_tail tail ≡ true → ends_block false (explicit_indent m) (text_lines rest) ≡ true → IsBlock least (written_block s m (break_text b) tail) rest
written_is least m b s tail rest can le line seam = search (rules, written_indent, written_raw, break_is, written_ends, clips, lines_good)

pub written_content : (m : ℕ) (b : Break) (s tail : List ℕ) → CanWrite s → block_content (written_block s m (break_text b) tail) ≡ s
written_content m b s tail can =
    rw (clips (ends_with_break (text_lines s))).1 (written_says m (break_text b) (text_lines s) (break_is b) (lines_good s can.plain) (lines_are s) ∙ joined_lines s)
