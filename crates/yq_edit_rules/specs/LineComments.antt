-- Comments of items and entries, put and taken away (own).
use Rattle.std.specs.Prelude.{◌≡◌, ℕ, ◌+◌, List, [], ◌∷◌, ◌++◌, length, false}
use Rattle.yq_core.specs.Paths.{Step, changed_at, relabel_child, within}
use Rattle.yq_outline.{specs.Comments.line_comment, specs.Lines.lines_of_rows, specs.Places.FoundLine}
use Rattle.yq_row_table.{specs.Rows.{Row, parent_indent, rows_text, Part, Cut}, specs.Seams.{TailFits, is_block, retail}}
use Rattle.yq_row_table.specs.Splices.{first_gap}
use Rattle.yq_documents.{specs.Documents.lead_of, specs.Reading.part_outline, specs.TreeEdits.with_line_comment}
use Rattle.yq_edit_rules.{specs.Siblings.{IsEntryAt, NodeLines}, specs.LineRows.lines_before_entry}
use Rattle.yq_edit_rules.{specs.DocumentRows.{IsDocumentPart, after_document, put_rows}, specs.Changed.ChangesIfReadable}

-- a part in which a row has another tail
abbrev pub retailed : (front : List Row) → Row → (back : List Row) → List ℕ → Part → Part
retailed front r back tail p = put_rows front (retail tail r ∷ []) back (first_gap back p.end) p

-- A row of a part, which holds no block scalar, may have this tail before a rest.
pub record TakesTail (p : Part) (front : List Row) (r : Row) (back : List Row) (tail rest : List ℕ) : Type 0 where
  pub rows_are : p.rows ≡ front ++ (r ∷ back)
  pub inline : is_block r.content ≡ false
  pub fits : TailFits (parent_indent r) tail r.content (rows_text back (p.end ++ rest))

-- after the lines of these rows, and one for each dash of the next row, comes the line of an item or entry
abbrev pub IsMarkLine : List Row → Row → NodeLines → FoundLine → Type 0
IsMarkLine front r h f = length (lines_of_rows front) + length r.dashes ≡ lines_before_entry h f

-- The line comment of an item or entry is set, where its line is the last of its row and no block scalar's: the row gets another tail.
abbrev pub LineCommented : Type 0
LineCommented =
    (t : List ℕ) (c : Cut) (k : ℕ) (p : Part) (steps : List Step) (s : Step) (h : NodeLines) (f : FoundLine) (front back : List Row) (r : Row)
    (tail : List ℕ) → IsDocumentPart t c k p →
    IsEntryAt steps s (part_outline p) h f → TakesTail p front r back tail (after_document k c) → IsMarkLine front r h f →
    ChangesIfReadable c k (retailed front r back tail p) (lead_of p)
    (changed_at steps (within (relabel_child s (with_line_comment (line_comment tail)))))
