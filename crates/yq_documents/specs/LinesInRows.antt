-- Which line of which row a line is, and where a text has room for comments (own).
use Rattle.std.specs.Prelude.{ℕ, suc, ◌-◌, nat_lt, ◌==◌, Bool, false, List, [], ◌∷◌, length, slice_get, Option, Some, None, option_map}
use Rattle.std.specs.Prelude.{if◌then◌else◌}
use Rattle.yq_core.{specs.Answers.◌>>=◌, specs.Paths.Step}
use Rattle.yq_row_table.specs.Rows.{Row, Cut}
use Rattle.yq_documents.{specs.declared.path.Part.Part, specs.declared.path.Part.TheVariants.{Content, Entry, HeadComment, LineComment}}
use Rattle.yq_documents.{specs.declared.path.Path.Path, specs.Documents.document_parts, specs.PartNumbers.{part_number, rows_to}}
use Rattle.yq_documents.{specs.Located.steps_of, specs.Reading.cut_of}
use Rattle.yq_outline.{specs.Lines.lines_of_rows, specs.Ends.line_at_steps}

-- A line of a row: how many rows come before that row, the row, and how many of its lines come before this one (own).
pub record RowLine : Type 0 where
  pub before : ℕ
  pub row : Row
  pub line : ℕ

-- the same after one more row (own)
abbrev pub one_row_later : RowLine → RowLine
one_row_later s = record s { before = suc s.before }

-- line n of rows; a row has a line for each dash before its mark, and one for the mark (own)
abbrev pub row_line : ℕ → List Row → Option RowLine
row_line n [] = None
row_line n (r ∷ rs) =
    if nat_lt (length r.dashes) n then option_map one_row_later (row_line (n - suc (length r.dashes)) rs)
    else Some (record { before = 0; row = r; line = n })

-- the line of the entry or item to which steps lead among rows; the root has none, nor has what is in flow (own)
abbrev pub row_line_of : List Step → List Row → Option RowLine
row_line_of steps rs = line_at_steps steps (lines_of_rows rs) >>= λ n. row_line n rs

-- the same of a path in a cut, among the rows of its document (own)
abbrev pub row_line_at : Path → Cut → Option RowLine
row_line_at p c = slice_get (document_parts c) p.doc >>= λ d. row_line_of (steps_of p) d.rows

-- whether a line has room for a comment: above it where it begins its row, after it where it is that of the row's mark (own)
abbrev pub line_has_room : Part → RowLine → Bool
line_has_room Content s = false
line_has_room Entry s = false
line_has_room HeadComment s = s.line == 0
line_has_room LineComment s = s.line == length s.row.dashes

-- the same of a line, if there is one (own)
abbrev pub row_line_has_room : Part → Option RowLine → Bool
row_line_has_room part None = false
row_line_has_room part (Some s) = line_has_room part s

-- whether a text has room for a comment at a path (own)
abbrev pub has_room : Path → Part → List ℕ → Bool
has_room p part t = row_line_has_room part (row_line_at p (cut_of t))

-- how many rows come before document n of a cut (own)
abbrev pub document_row : ℕ → Cut → ℕ
document_row n c = rows_to (part_number n c) c
