-- A document's rows in the text of a cut, and the row of the line to which a path leads (YAML 1.2.2, 9.1; own).
use Rattle.std.specs.Prelude.{ℕ, zero, suc, List, [], ◌++◌, take, drop, slice_get, Option, option_map}
use Rattle.yq_core.{specs.Answers.◌>>=◌, specs.Paths.Step}
use Rattle.yq_row_table.{specs.Rows.{Row, rows_text, Part, part_text, Cut, last, marked}, specs.Splices.{nth_part, after_part}}
use Rattle.yq_documents.{specs.Documents.document_parts, specs.PartNumbers.part_number, specs.LinesInRows.{RowLine, row_line_of}}

-- The part of a cut that is a document, with the text before and after it (9.1; own).
pub record PlacedPart : Type 0 where
  pub before : List ℕ
  pub part : Part
  pub after : List ℕ

-- the text before part i of a cut, or before the last one (own)
abbrev pub before_part : ℕ → Cut → List ℕ
before_part i (last p) = []
before_part zero (marked p marker c) = []
before_part (suc i) (marked p marker c) = part_text p marker ++ before_part i c

-- part i in its place, or the last one (own)
abbrev pub placed_at : ℕ → Cut → PlacedPart
placed_at i c = record { before = before_part i c; part = nth_part i c; after = after_part i c }

-- document n of a cut (9.1)
abbrev pub placed_document : ℕ → Cut → Option PlacedPart
placed_document n c = option_map (λ p. placed_at (part_number n c) c) (slice_get (document_parts c) n)

-- A row with a line of it, with the text before the row and after it.
pub record PlacedRow : Type 0 where
  pub before : List ℕ
  pub row : Row
  pub line : ℕ
  pub after : List ℕ

-- the row of a line in a document
abbrev pub placed_row : PlacedPart → RowLine → PlacedRow
placed_row s x = record {
  before = s.before ++ rows_text (take x.before s.part.rows) [];
  row = x.row;
  line = x.line;
  after = rows_text (drop (suc x.before) s.part.rows) (s.part.end ++ s.after);
}

-- the row of the line of the entry or item to which steps lead in a document, if one has a line
abbrev pub row_of_path : ℕ → List Step → Cut → Option PlacedRow
row_of_path n steps c = placed_document n c >>= λ s. option_map (placed_row s) (row_line_of steps s.part.rows)
