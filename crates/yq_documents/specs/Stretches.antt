-- Reading (own; you may skip it): the rows of documents among those of a text, and their lines by number.
use Rattle.std.specs.Prelude.{◌≡◌, ◌<◌, ℕ, ◌+◌, ◌-◌, List, [], length, slice_get, true, Option, Some, None}
use Rattle.yq_outline.{specs.Ends.part, specs.Outline.{Line, Outline, level}, specs.Extents.IsRowsView, specs.Lines.lines_of_rows}
use Rattle.yq_outline.{specs.RowWalk.{IsLine, IsPosition, line_number}, specs.declared.line_position.Position.Position}
use Rattle.yq_outline.specs.declared.line_position.Stretch.{Stretch}
use Rattle.yq_row_table.{specs.Grammar.IsCut, specs.Rows.{Row, Part}, specs.View.{RowsView, rows_view}}
use Rattle.yq_documents.{specs.Documents.document_parts, specs.Reading.{all_documents, cut_of, documents_of}}
use Rattle.yq_documents.specs.LinesInRows.{document_row}

-- the rows of a part; where there is no part there are none (own)
abbrev pub part_rows : Option Part → List Row
part_rows None = []
part_rows (Some p) = p.rows

-- the rows of document n of a text (own)
abbrev pub rows_of_document : ℕ → List ℕ → List Row
rows_of_document n t = part_rows (slice_get (document_parts (cut_of t)) n)

-- the lines of document n of a text (own)
abbrev pub document_lines : ℕ → List ℕ → List Line
document_lines n t = lines_of_rows (rows_of_document n t)

-- where the rows of document n are among those of a text (own)
abbrev pub stretch_of : ℕ → List ℕ → Stretch
stretch_of n t = record { first = document_row n (cut_of t); end = document_row n (cut_of t) + length (rows_of_document n t) }

-- the number of a line of document n of a text (own)
abbrev pub number_of : ℕ → List ℕ → Position → ℕ
number_of n t q = line_number (stretch_of n t) (rows_of_document n t) q

-- a line of document n of a text, or the end after its rows (own)
abbrev pub IsPositionIn : List ℕ → ℕ → Position → Type 0
IsPositionIn t n q = IsPosition (rows_view (cut_of t)) (stretch_of n t) q

-- A line of document n of a text (own).
pub record IsLineIn (t : List ℕ) (n : ℕ) (q : Position) : Type 0 where
  pub place : IsLine (rows_view (cut_of t)) (stretch_of n t) q
  pub line : Line
  pub there : slice_get (document_lines n t) (number_of n t q) ≡ Some line

-- What is said of a line of document n of a text (own).
abbrev pub OfLineIn : List ℕ → ℕ → Position → (Line → Type 0) → Type 0
OfLineIn t n q said = (l : Line) → slice_get (document_lines n t) (number_of n t q) ≡ Some l → said l

-- how many lines of document n of a text are from one on (own)
abbrev pub count_from : List ℕ → ℕ → Position → ℕ
count_from t n q = length (document_lines n t) - number_of n t q

-- the lines under line q of document n of a text, where it is this line (own)
abbrev pub lines_under : List ℕ → ℕ → Position → Line → Outline
lines_under t n q l = part (document_lines n t) (number_of n t q + 1) (level l)

-- The rows of a text that reads as documents, and which of them are those of document n (own).
pub record HasText (t : List ℕ) (n : ℕ) (s : RowsView) (d : Stretch) : Type 0 where
  pub cut : IsCut t (cut_of t)
  pub sound : all_documents (cut_of t) ≡ true
  pub rows : s ≡ rows_view (cut_of t)
  pub small : IsRowsView s
  pub place : d ≡ stretch_of n t
  pub there : n < length (documents_of t)
