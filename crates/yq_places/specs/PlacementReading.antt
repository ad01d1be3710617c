-- Reading (own; you may skip it): the rows of items and entries, as the code counts them.
use Rattle.std.specs.Str.{IsCharBoundary}
use Rattle.std.specs.Prelude.{◌≡◌, ℕ, suc, ◌+◌, ◌≤◌, List, [], ◌∷◌, ◌++◌, length, drop, slice_get, Option, Some, option_map}
use Rattle.yq_core.{specs.Answers.◌>>=◌, specs.Paths.Step}
use Rattle.yq_row_table.{specs.Grammar.IsCut, specs.Rows.{Row, Cut, print_row, rows_text}, specs.View.{RowsView, rows_view}}
use Rattle.yq_documents.{specs.Documents.document_parts, specs.Reading.cut_of, specs.LinesInRows.{RowLine, document_row, row_line_of}}
use Rattle.yq_places.specs.PlacedRows.{PlacedPart, placed_document}
use Rattle.yq_places.specs.Placements.{LinesIn, RowsOfEntry, before_entry, after_entry, lines_between, under_count}
use Rattle.yq_outline.specs.declared.line_position.Stretch.{Stretch}
use Rattle.yq_places.specs.declared.places.rows_of_entry.RowsOfEntry as declared

-- how many rows come before the first one, how many lines of that before the one of the key or dash and before that of its mark, and how
-- many rows come before what is after
abbrev pub PlacementCounts : Type 0
PlacementCounts = ℕ × ℕ × ℕ × ℕ

-- these numbers for a line of a document, after so many rows
abbrev pub numbers_of_entry : ℕ → List Row → RowLine → PlacementCounts
numbers_of_entry k rs s = (k + s.before, s.line, length s.row.dashes, k + s.before + 1 + under_count s (drop (suc s.before) rs))

-- these numbers for the item or entry to which steps lead in document n
abbrev pub numbers_at : ℕ → List Step → Cut → Option PlacementCounts
numbers_at n steps c = slice_get (document_parts c) n >>= λ p. option_map (numbers_of_entry (document_row n c) p.rows) (row_line_of steps p.rows)

-- the numbers that the code reports
abbrev pub as_numbers : declared.RowsOfEntry → PlacementCounts
as_numbers m = (m.row, m.line, m.dashes, m.end)

-- An item's or entry's rows are those of a text from number `row` up to number `end`, which isn't one of them.
pub record AreRowsOf (t : List ℕ) (s : RowsView) (e : RowsOfEntry) (row end : ℕ) : Type 0 where
  pub cut : IsCut t (cut_of t)
  pub rows_view_is : s ≡ rows_view (cut_of t)
  pub document : ℕ
  pub part : PlacedPart
  pub placed : placed_document document (cut_of t) ≡ Some part
  pub rows_are : part.part.rows ≡ e.front ++ (e.row ∷ (e.under ++ e.back))
  pub start_is : e.start ≡ part.before
  pub end_is : e.end ≡ part.part.end
  pub following_is : e.after ≡ part.after
  pub row_is : row ≡ document_row document (cut_of t) + length e.front
  pub last_is : end ≡ row + suc (length e.under)

-- The rows of an item or entry are in a text.
pub record IsEntryIn (t : List ℕ) (s : RowsView) (e : RowsOfEntry) (m : declared.RowsOfEntry) : Type 0 where
  pub rows : AreRowsOf t s e m.row m.end
  pub line : m.line ≡ e.line
  pub dashes : m.dashes ≡ length e.row.dashes
  pub upto : e.line ≤ length e.row.dashes

-- Of some item or entry the numbers are these.
pub record HasEntry (t : List ℕ) (s : RowsView) (m : declared.RowsOfEntry) : Type 0 where
  pub entry : RowsOfEntry
  pub is : IsEntryIn t s entry m

-- Rows of some item or entry, or of a document, begin in a text at number `row`.
pub record BeginsRows (t : List ℕ) (s : RowsView) (row : ℕ) : Type 0 where
  pub entry : RowsOfEntry
  pub end : ℕ
  pub is : AreRowsOf t s entry row end

-- From a place on is the end of the rows of an item or entry, up to row number `end`, which isn't one of them.
pub record EndsRows (t : List ℕ) (s : RowsView) (from end : ℕ) : Type 0 where
  pub entry : RowsOfEntry
  pub row : ℕ
  pub rows : AreRowsOf t s entry row end
  pub front : List ℕ
  pub own : List ℕ
  pub text : before_entry entry ++ print_row entry.row (rows_text entry.under []) ≡ front ++ own
  pub from_is : from ≡ length front
  pub starts : IsCharBoundary t from

-- these lines
abbrev pub rows_lines : {t : List ℕ} {s : RowsView} {from end : ℕ} → EndsRows t s from end → LinesIn
rows_lines h = lines_between h.front h.own (after_entry h.entry)

-- all rows of a document, as those of an item or entry
abbrev pub root_entry : PlacedPart → Row → List Row → RowsOfEntry
root_entry d r rs = record { start = d.before; front = []; row = r; line = 0; under = rs; back = []; end = d.part.end; after = d.after }

-- A document with rows has these numbers in a text: its first row, and the one after its last.
pub record IsRootOf (t : List ℕ) (s : RowsView) (d : Stretch) : Type 0 where
  pub part : PlacedPart
  pub row : Row
  pub under : List Row
  pub rows_are : part.part.rows ≡ row ∷ under
  pub is : AreRowsOf t s (root_entry part row under) d.first d.end
