-- What is exchanged where an item or entry is taken out with its rows (YAML 1.2.2, 8.2; own).
use Rattle.std.specs.Prelude.{ℕ, List, [], ◌∷◌, ◌++◌, replicate, Option, Some, None, if◌then◌else◌}
use Rattle.yq_core.{specs.BlockRepair.{is_short, is_outdented_comment}, specs.Lines.is_blank}
use Rattle.yq_core.specs.Text.{cut, no_white, past_white, joined, text_lines}
use Rattle.yq_documents.specs.Pieces.{TextPiece}
use Rattle.yq_places.specs.RemovalPlaces.{Seam, Removal}
use Rattle.yq_edit_rules.specs.PiecePuts.{piece_replaced}
use Rattle.yq_text.specs.Script.{Segment, keep, put}

-- the white space in front of a line is replaced by so many spaces (own)
abbrev pub put_indent : ℕ → List ℕ → List Segment
put_indent column l = put (cut no_white l).0 (replicate column 32) ∷ (keep (past_white l) ∷ [])

-- a blank line after a block scalar goes where the scalar keeps empty lines; else it is emptied, if it isn't short enough to be one (8.1.1.2)
abbrev pub blank_mended : Seam → List ℕ → List Segment
blank_mended s l = if s.keeps then put l [] ∷ [] else (if is_short s.indent l then keep l ∷ [] else put_indent 0 l)

-- a comment line after a block scalar gets the next row's column, if it is indented as deep as the scalar's text, or has a tab before its `#` (8.1.1.1)
abbrev pub comment_mended : Seam → List ℕ → List Segment
comment_mended s l = if is_outdented_comment s.indent l then keep l ∷ [] else put_indent s.column l

-- the lines of a gap after a block scalar: the blank ones in front, and the first comment line (own)
abbrev pub lines_mended : Seam → List (List ℕ) → List Segment
lines_mended s [] = []
lines_mended s (l ∷ ls) = if is_blank l then blank_mended s l ++ lines_mended s ls else comment_mended s l ++ (keep (joined ls) ∷ [])

-- a gap that ends up at a seam, if there is one (own)
abbrev pub gap_mended : Option Seam → List ℕ → List Segment
gap_mended None gap = keep gap ∷ []
gap_mended (Some s) gap = lines_mended s (text_lines gap)

-- the lines of an item or entry go, and the gap after them is mended (own)
abbrev pub rows_removed : Removal → List Segment
rows_removed x = keep x.before ∷ (put x.gone [] ∷ (gap_mended x.seam x.gap ++ (keep x.after ∷ [])))

-- the first item or entry of a compact collection goes, with what goes with it (8.2.1; own)
abbrev pub first_removed : TextPiece → List Segment
first_removed w = piece_replaced w []
