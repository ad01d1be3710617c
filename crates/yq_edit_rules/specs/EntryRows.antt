-- The rows of a collection's items or entries, and of one of them (own).
use Rattle.std.specs.Prelude.{◌≡◌, ℕ, List, ◌∷◌, ◌++◌, length, Some}
use Rattle.yq_core.specs.Paths.{Step}
use Rattle.yq_row_table.specs.Rows.{Row, Part}
use Rattle.yq_outline.{specs.Lines.lines_of_rows, specs.Outline.{flatten, IsEven}, specs.Places.FoundLine}
use Rattle.yq_documents.{specs.Reading.part_outline, specs.LinesInRows.{RowLine, row_line}}
use Rattle.yq_edit_rules.{specs.Siblings.{IsEntryAt, NodeLines}, specs.LineRows.lines_before_entry}

-- The rows of an item or entry that has whole rows are those between others in front and others after.
pub record HasWholeRows (p : Part) (h : NodeLines) (f : FoundLine) (front gone back : List Row) : Type 0 where
  pub rows_are : p.rows ≡ front ++ (gone ++ back)
  pub number : length (lines_of_rows front) ≡ lines_before_entry h f
  pub count : length (lines_of_rows gone) ≡ length (f.line ∷ flatten f.under)

-- An item or entry has such rows, and so many rows come before them.
pub record RowsFrom (p : Part) (h : NodeLines) (f : FoundLine) (before : ℕ) : Type 0 where
  pub front : List Row
  pub gone : List Row
  pub back : List Row
  pub number : length front ≡ before
  pub has : HasWholeRows p h f front gone back

-- An item or entry whose line is the first of its row has rows of its own.
abbrev pub EntryRows : Type 0
EntryRows =
    (p : Part) (n : ℕ) (steps : List Step) (s : Step) (h : NodeLines) (f : FoundLine) (x : RowLine) → IsEven n (part_outline p) →
    IsEntryAt steps s (part_outline p) h f → row_line (lines_before_entry h f) p.rows ≡ Some x → x.line ≡ 0 → RowsFrom p h f x.before
