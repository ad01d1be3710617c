-- Block scalars (YAML 1.2.2, section 8.1).
use Rattle.std.specs.Prelude.{◌≡◌, ℕ, ◌+◌, ◌-◌, ◌≤◌, Bool, true, false, ◌||◌, ◌&&◌, not, nat_le, nat_lt, List, [], ◌∷◌, ◌++◌, length, drop}
use Rattle.std.specs.Prelude.{if◌then◌else◌, ◌⊎◌, Option, Some, None, ℤ}
use Rattle.yq_core.{specs.declared.block_header.BlockStyle.BlockStyle, specs.declared.block_header.Chomping.Chomping}
use Rattle.yq_core.{specs.declared.block_lines.TextIndent.TextIndent, specs.declared.fault.FaultKind.FaultKind}
use Rattle.yq_core.{specs.declared.piece.Piece.Piece, specs.declared.style.Style.Style}
use Rattle.yq_core.{specs.Lines.{spaces, without_spaces, is_tab, is_hash, is_blank}, specs.Piece.deeper}
use Rattle.yq_core.specs.Text.{is_white, front, past_white, ends_line, text_lines, joined, is_line}
use Rattle.yq_core.specs.declared.block_header.BlockStyle.TheVariants as styles
use Rattle.yq_core.specs.declared.block_header.Chomping.TheVariants as chompings
use Rattle.yq_core.specs.declared.fault.FaultKind.TheVariants as fault
use Rattle.yq_core.specs.declared.style.Style.TheVariants as all_styles

-- lines, each with its break (own)
abbrev pub RawLines : Type 0
RawLines = List (List ℕ)

-- Under an indentation, a line of spaces alone, no more than that, is empty; where neither a digit nor a text line gives the indentation, of any
-- number of spaces (YAML 1.2.2, section 8.1.1.1; l-empty of section 6.4).
abbrev pub is_empty_line : TextIndent → List ℕ → Bool
is_empty_line f l = ends_line (without_spaces l) && (not f.known || nat_le (spaces l) f.columns)

-- A text line begins with the indentation and has a character after it (YAML 1.2.2, l-nb-literal-text of section 8.1.2).
abbrev pub is_text_line : TextIndent → List ℕ → Bool
is_text_line f l = not (is_empty_line f l) && f.known && nat_le f.columns (spaces l)

-- A less indented line has a character, no tab, after fewer spaces than the indentation has (YAML 1.2.2, section 8.1.1.2).
abbrev pub is_less_indented : TextIndent → List ℕ → Bool
is_less_indented f l = not (ends_line (without_spaces l)) && nat_lt (spaces l) f.columns && not (is_tab (without_spaces l))

-- What may come after a block scalar: empty lines, unless it keeps them as its own, then the end or a less indented line (YAML 1.2.2,
-- l-chomped-empty of section 8.1.1.2).
unfoldable pub ends_block : Bool → TextIndent → RawLines → Bool
ends_block keep f [] = true
ends_block keep f (l ∷ ls) = if is_empty_line f l then (not keep && ends_block keep f ls) else is_less_indented f l

-- A line of a block scalar is empty or a text line, and has a break (YAML 1.2.2, section 8.1.2).
abbrev pub IsRawLine : TextIndent → List ℕ → Type 0
IsRawLine f l = (is_line l ≡ true) × ((is_empty_line f l ≡ true) ⊎ (is_text_line f l ≡ true))

-- lines of a block scalar (YAML 1.2.2, section 8.1.2)
abbrev pub AreRaw : TextIndent → RawLines → Type 0
AreRaw f [] = Unit {0}
AreRaw f (l ∷ ls) = IsRawLine f l × AreRaw f ls

-- there are no lines (own)
abbrev pub no_lines : RawLines → Bool
no_lines [] = true
no_lines (l ∷ ls) = false

-- the last line, if there is one, is a text line (own)
abbrev pub ends_in_text : TextIndent → RawLines → Bool
ends_in_text f [] = true
ends_in_text f (l ∷ ls) = if no_lines ls then is_text_line f l else ends_in_text f ls

-- The indentation where no digit gives it: that of the first line that isn't blank, at least the least one, and no blank line before it begins
-- with more spaces. Without such a line it is the least one (YAML 1.2.2, section 8.1.1.1).
abbrev pub IsDetected : ℕ → TextIndent → RawLines → Type 0
IsDetected least f [] = f ≡ record { columns = least; known = false }
IsDetected least f (l ∷ ls) =
    ((is_blank l ≡ true) × (f.known ≡ true → spaces l ≤ f.columns) × IsDetected least f ls)
    ⊎ ((is_blank l ≡ false) × (f ≡ record { columns = spaces l; known = true }) × (least ≤ spaces l))

-- the indentation of the text: a digit counts from the parent's, whose is one less than the least (YAML 1.2.2, section 8.1.1.1)
abbrev pub IsTextIndent : ℕ → Option ℕ → TextIndent → RawLines → Type 0
IsTextIndent least None f raw = IsDetected least f raw
IsTextIndent least (Some d) f raw = f ≡ record { columns = least + d - 1; known = true }

-- `|` for literal, `>` for folded (YAML 1.2.2, sections 8.1.2 and 8.1.3)
abbrev pub style_indicator : BlockStyle → ℕ
style_indicator styles.Literal = 124
style_indicator styles.Folded = 62

-- the same among all styles (own)
abbrev pub as_style : BlockStyle → Style
as_style styles.Literal = all_styles.Literal
as_style styles.Folded = all_styles.Folded

-- an indentation indicator is a digit from 1 to 9 (YAML 1.2.2, section 8.1.1.1)
abbrev pub IsDigit : Option ℕ → Type 0
IsDigit None = Unit {0}
IsDigit (Some d) = (1 ≤ d) × (d ≤ 9)

-- how an indentation indicator is written (YAML 1.2.2, section 8.1.1.1)
abbrev pub digit_text : Option ℕ → List ℕ
digit_text None = []
digit_text (Some d) = (48 + d) ∷ []

-- how a chomping indicator is written (YAML 1.2.2, section 8.1.1.2)
abbrev pub sign_text : Chomping → List ℕ
sign_text chompings.Strip = 45 ∷ []
sign_text chompings.Clip = []
sign_text chompings.Keep = 43 ∷ []

-- it keeps the empty lines at the end (YAML 1.2.2, section 8.1.1.2)
abbrev pub keeps : Chomping → Bool
keeps chompings.Strip = false
keeps chompings.Clip = false
keeps chompings.Keep = true

-- Both indicators, in either order (YAML 1.2.2, section 8.1.1).
pub record IsIndicators (digit : Option ℕ) (chomping : Chomping) (p : List ℕ) : Type 0 where
  pub small : IsDigit digit
  pub spelled : (p ≡ digit_text digit ++ sign_text chomping) ⊎ (p ≡ sign_text chomping ++ digit_text digit)

-- the rest of a header's line, with its break: white space, and perhaps a comment after it (YAML 1.2.2, s-b-comment of section 6.6)
abbrev pub is_tail : List ℕ → Bool
is_tail l = is_line l && (is_blank l || (front is_white l && is_hash (past_white l)))

-- A block scalar, by its pieces in order, and the indentation of its text (own).
pub record BlockText : Type 0 where
  pub style : BlockStyle
  pub digit : Option ℕ
  pub chomping : Chomping
  pub indicators : List ℕ
  pub tail : List ℕ
  pub raw : RawLines
  pub indent : TextIndent

-- its text, before a rest (own)
abbrev pub block_text : BlockText → List ℕ → List ℕ
block_text b rest = style_indicator b.style ∷ (b.indicators ++ (b.tail ++ (joined b.raw ++ rest)))

-- A block scalar whose text is indented by so many columns at least, before a rest. Empty lines at the end belong to it only if it keeps them
-- (YAML 1.2.2, section 8.1).
pub record IsBlock (least : ℕ) (b : BlockText) (rest : List ℕ) : Type 0 where
  pub indicators : IsIndicators b.digit b.chomping b.indicators
  pub tail : is_tail b.tail ≡ true
  pub indent : IsTextIndent least b.digit b.indent b.raw
  pub lines : AreRaw b.indent b.raw
  pub ends : (keeps b.chomping ≡ true) ⊎ (ends_in_text b.indent b.raw ≡ true)
  pub after : ends_block (keeps b.chomping) b.indent (text_lines rest) ≡ true

-- where its pieces are, by the offset at which it begins (own)
abbrev pub block_piece : ℕ → BlockText → Piece
block_piece start b = record {
  style = as_style b.style;
  start = start;
  head_end = start + 1 + length b.indicators;
  raw_start = start + 1 + length b.indicators + length b.tail;
  end = start + 1 + length b.indicators + length b.tail + length (joined b.raw);
  indent = b.indent.columns;
  keep = keeps b.chomping;
}

-- the piece is that of a block scalar that begins at this offset of the text, below a parent of this indentation (YAML 1.2.2, section 8.1)
pub record IsBlockPiece (n : ℤ) (at : ℕ) (text : List ℕ) (p : Piece) : Type 0 where
  pub block : BlockText
  pub rest : List ℕ
  pub is_located : drop at text ≡ block_text block rest
  pub scalar : IsBlock (deeper n) block rest
  pub piece : p ≡ block_piece at block

-- the faults of a block scalar: its header, a blank line that is too long, a tab in its indentation, no final break (own)
abbrev pub is_block_fault : FaultKind → Bool
is_block_fault fault.BadBlockHeader = true
is_block_fault fault.BadIndent = true
is_block_fault fault.TabIndent = true
is_block_fault fault.NoFinalBreak = true
is_block_fault _ = false

-- the piece is that of a block scalar of the text (own)
abbrev pub IsBlockScalar : List ℕ → Piece → Type 0
IsBlockScalar text p = (n : ℤ) × IsBlockPiece n p.start text p
