-- Where the comments of entries and items are, or would be, in a text (YAML 1.2.2, 6.6; own).
use Rattle.std.specs.Prelude.{ℕ, ◌==◌, List, ◌++◌, Option, Some, None, if◌then◌else◌}
use Rattle.yq_core.{specs.Answers.◌>>=◌, specs.Paths.Step, specs.Text.{ends_line, joined, text_lines, no_white, past_white}}
use Rattle.yq_row_table.{specs.Exchange.row_front, specs.Rows.{Row, following_gap, Cut}, specs.View.slices}
use Rattle.yq_documents.specs.Pieces.{TextPiece, before_run, last_run}
use Rattle.yq_places.specs.PlacedRows.{PlacedRow, row_of_path}
use Rattle.yq_core.specs.Text as text

-- The end of a line: the text before it, the white space and the comment that end the line, each of which may be nothing, and the text from its break on (6.6).
pub record LineEnd : Type 0 where
  pub before : List ℕ
  pub white : List ℕ
  pub comment : List ℕ
  pub after : List ℕ

-- the end of a line, by the text before the white space that ends it, and the text from that on (6.6)
abbrev pub end_in_line : List ℕ → List ℕ → LineEnd
end_in_line before rest =
    let line = text.cut ends_line (past_white rest) in
    record { before = before; white = (text.cut no_white rest).0; comment = line.0; after = line.1 }

-- the text of a row up to the end of the line of its key or dash: with what is written there, or with the header of a block scalar
abbrev pub text_to_line_end : Row → List ℕ
text_to_line_end r = let s = slices r in row_front r ++ (s.space ++ (s.anchor ++ (s.apart ++ s.head)))

-- the end of the line of a row's key or dash (6.6; own)
abbrev pub end_of_line : PlacedRow → LineEnd
end_of_line w = let s = slices w.row in end_in_line (w.before ++ text_to_line_end w.row) (s.tail ++ (s.raw ++ w.after))

-- the run of comment lines, which may be nothing, that ends a gap between two texts (6.6; own)
abbrev pub gap_above : (before gap rest : List ℕ) → TextPiece
gap_above before gap rest = record { before = before ++ joined (before_run (text_lines gap)); text = joined (last_run (text_lines gap)); after = rest }

-- a row's column, and the run of comment lines above it (6.6; own)
abbrev pub above_row : PlacedRow → ℕ × TextPiece
above_row w = (w.row.column, gap_above w.before w.row.gap (following_gap w.row w.after))

-- the same of the row that the entry or item begins to which steps lead in document n, where its head comment is or would be, if its line
-- is the first one of its row (6.6; own)
abbrev pub lines_above : ℕ → List Step → Cut → Option (ℕ × TextPiece)
lines_above n steps c = row_of_path n steps c >>= λ w. if w.line == 0 then Some (above_row w) else None
