-- Reading (own; you may skip it: the clauses `found` and `only` show that it agrees with the grammar).
use Rattle.std.specs.Prelude.{ℕ, ◌+◌, ◌-◌, Bool, true, false, ◌||◌, ◌&&◌, not, ◌==◌, nat_le, nat_lt, List, [], ◌∷◌, ◌++◌, length, take}
use Rattle.std.{specs.Prelude.{drop, if◌then◌else◌, Option, Some, None, ℤ}, specs.Option.unwrap_or}
use Rattle.yq_core.{specs.declared.block_header.BlockStyle.BlockStyle, specs.declared.block_header.Chomping.Chomping}
use Rattle.yq_core.{specs.declared.block_lines.TextIndent.TextIndent, specs.declared.piece.Piece.Piece, specs.declared.style.Style.Style}
use Rattle.yq_core.specs.Answers.{◌>>=◌}
use Rattle.yq_core.specs.Block.{RawLines, is_empty_line, is_text_line, is_less_indented, digit_text, sign_text, keeps, is_tail, BlockText}
use Rattle.yq_core.{specs.Block.block_piece, specs.BlockContent.block_lines_content, specs.Lines.{spaces, is_blank}, specs.Piece.deeper}
use Rattle.yq_core.specs.Text.{is_empty, is_line, line_len, text_lines, joined}
use Rattle.yq_core.specs.declared.block_header.BlockStyle.TheVariants as styles
use Rattle.yq_core.specs.declared.block_header.Chomping.TheVariants as chompings
use Rattle.yq_core.specs.declared.style.Style.TheVariants as all_styles

-- an empty line that is read as one: with a break, where it may belong to the scalar (own)
abbrev pub is_empty_at : Bool → TextIndent → List ℕ → Bool
is_empty_at keep f l = is_empty_line f l && (not keep || is_line l)

-- a text line that is read as one: with a break (own)
abbrev pub is_text_at : TextIndent → List ℕ → Bool
is_text_at f l = is_text_line f l && is_line l

-- a line in front of the raw lines (own)
abbrev pub raw_with_line : List ℕ → RawLines × RawLines → Option (RawLines × RawLines)
raw_with_line l x = Some (l ∷ x.0, x.1)

-- an empty line belongs to the scalar if it keeps it, or if a text line follows (own)
abbrev pub with_empty : Bool → List ℕ → RawLines → RawLines × RawLines → Option (RawLines × RawLines)
with_empty keep l ls x = if not keep && is_empty (joined x.0) then Some ([], l ∷ ls) else Some (l ∷ x.0, x.1)

-- the raw lines in front, and the lines after them (own)
unfoldable pub raw_at : Bool → TextIndent → RawLines → Option (RawLines × RawLines)
raw_at keep f [] = Some ([], [])
raw_at keep f (l ∷ ls) =
    if is_empty_at keep f l then raw_at keep f ls >>= with_empty keep l ls
    else (if is_text_at f l then raw_at keep f ls >>= raw_with_line l
    else (if is_less_indented f l then Some ([], l ∷ ls)
    else None))

-- how long raw lines are, in bytes (own)
abbrev pub raw_len : Option (RawLines × RawLines) → Option ℕ
raw_len o = o >>= λ x. Some (length (joined x.0))

-- how long the raw lines in front of a text are, in bytes (own)
abbrev pub len_at : Bool → TextIndent → List ℕ → Option ℕ
len_at keep f t = raw_len (raw_at keep f (text_lines t))

-- how long raw lines are of which w bytes are sure and s bytes were seen (own)
abbrev pub raw_length : ℕ → ℕ → Option ℕ → Option ℕ
raw_length w s o = o >>= λ n. Some (if n == 0 then w else s + n)

-- The indentation that the lines give, after blank lines of so many spaces at most: that of the first line that isn't blank (own).
unfoldable pub detected_at : ℕ → ℕ → RawLines → Option TextIndent
detected_at least most [] = Some (record { columns = least; known = false })
detected_at least most (l ∷ ls) =
    if is_blank l then detected_at least (if nat_lt most (spaces l) then spaces l else most) ls
    else (if nat_lt (spaces l) least then Some (record { columns = least; known = false })
    else (if nat_lt (spaces l) most then None
    else Some (record { columns = spaces l; known = true })))

-- the indentation of the text (own)
unfoldable pub indent_at : ℕ → Option ℕ → RawLines → Option TextIndent
indent_at least None ls = detected_at least 0 ls
indent_at least (Some d) ls = Some (record { columns = least + d - 1; known = true })

-- the style in front, and what follows it (own)
unfoldable pub read_style : List ℕ → Option (BlockStyle × List ℕ)
read_style [] = None
read_style (b ∷ t) = if b == 124 then Some (styles.Literal, t) else (if b == 62 then Some (styles.Folded, t) else None)

-- the indentation indicator in front, and what follows it (own)
abbrev pub digit_at : List ℕ → Option ℕ × List ℕ
digit_at [] = (None, [])
digit_at (b ∷ t) = if nat_le 49 b && nat_le b 57 then (Some (b - 48), t) else (None, b ∷ t)

-- the chomping indicator in front, and what follows it (own)
abbrev pub sign_at : List ℕ → Chomping × List ℕ
sign_at [] = (chompings.Clip, [])
sign_at (b ∷ t) = if b == 45 then (chompings.Strip, t) else (if b == 43 then (chompings.Keep, t) else (chompings.Clip, b ∷ t))

-- both indicators, how they are written, and what follows them (own)
abbrev pub Indicators : Type 0
Indicators = Option ℕ × Chomping × List ℕ × List ℕ

-- the indicators after an indentation indicator, or where none is first (own)
abbrev pub indicators_after : Option ℕ × List ℕ → Indicators
indicators_after (None, t) = let c = sign_at t in let d = digit_at c.1 in (d.0, c.0, sign_text c.0 ++ digit_text d.0, d.1)
indicators_after (Some d, t) = let c = sign_at t in (Some d, c.0, digit_text (Some d) ++ sign_text c.0, c.1)

-- the indicators in front (own)
unfoldable pub indicators_at : List ℕ → Indicators
indicators_at t = indicators_after (digit_at t)

-- without how they are written (own)
abbrev pub values : Indicators → Option ℕ × Chomping × List ℕ
values m = (m.0, m.1, m.3)

-- the rest of a header's line, and what follows it (own)
unfoldable pub read_header_tail : List ℕ → Option (List ℕ × List ℕ)
read_header_tail t = if is_tail (take (line_len t) t) then Some (take (line_len t) t, drop (line_len t) t) else None

-- the block scalar whose style and indicators were read, and what follows it (own)
unfoldable pub block_after : ℕ → BlockStyle → Indicators → Option (BlockText × List ℕ)
block_after least s m = do
  tail ← read_header_tail m.3
  indent ← indent_at least m.0 (text_lines tail.1)
  raw ← raw_at (keeps m.1) indent (text_lines tail.1)
  Some (record { style = s; digit = m.0; chomping = m.1; indicators = m.2; tail = tail.0; raw = raw.0; indent = indent }, joined raw.1)

-- the block scalar in front, and what follows it (own)
unfoldable pub block_at : ℕ → List ℕ → Option (BlockText × List ℕ)
block_at least t = read_style t >>= λ s. block_after least s.0 (indicators_at s.1)

-- where the block scalar in front of a text that begins at this offset is (own)
abbrev pub read_block_piece : ℕ → ℕ → List ℕ → Option Piece
read_block_piece start least t = block_at least t >>= λ x. Some (block_piece start x.0)

-- the piece of the block scalar that begins at this offset, if one does (own)
unfoldable pub block_from : ℤ → ℕ → List ℕ → Option Piece
block_from n at text = read_block_piece at (deeper n) (drop at text)

-- the style of a block scalar's piece (own)
abbrev pub block_style : Style → BlockStyle
block_style all_styles.Plain = styles.Literal
block_style all_styles.Single = styles.Literal
block_style all_styles.Double = styles.Literal
block_style all_styles.Literal = styles.Literal
block_style all_styles.Folded = styles.Folded

-- the indentation of raw lines whose text is indented by so many columns (own)
unfoldable pub indent_of : Option ℕ → ℕ → RawLines → TextIndent
indent_of (Some d) n ls = record { columns = n; known = true }
indent_of None n ls = unwrap_or (detected_at n 0 ls) (record { columns = n; known = true })

-- what the raw lines of a piece mean, after these indicators (own)
abbrev pub raw_content : Piece → Option ℕ × Chomping × List ℕ → List ℕ → List ℕ
raw_content p m raw = block_lines_content (block_style p.style) m.1 (indent_of m.0 p.indent (text_lines raw)) (text_lines raw)

-- what the block scalar at a piece of a text means (own)
unfoldable pub block_piece_content : List ℕ → Piece → List ℕ
block_piece_content text p = raw_content p (values (indicators_at (drop (p.start + 1) text))) (take (p.end - p.raw_start) (drop p.raw_start text))
