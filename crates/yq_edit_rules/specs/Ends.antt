-- One item or entry more at the end of a text without a final break (own).
use Rattle.std.specs.Prelude.{◌≡◌, ℕ, ◌+◌, List, [], ◌∷◌, ◌++◌, length}
use Rattle.yq_core.specs.Paths.{Step, append_child, changed_at, within}
use Rattle.yq_row_table.{specs.Grammar.{AreRows, limit_after}, specs.Rows.{Row, Part, Cut}, specs.Appending.{closed_by, TakesBreak}}
use Rattle.yq_documents.{specs.Documents.lead_of, specs.Reading.part_outline}
use Rattle.yq_outline.{specs.Lines.lines_of_rows, specs.Outline.{Line, Outline, flatten, label}, specs.Places.{lines_before, content_under}}
use Rattle.yq_edit_rules.{specs.Siblings.{NodeLines, IsCollectionAt}, specs.Appends.AreAppendedRows}
use Rattle.yq_edit_rules.{specs.DocumentRows.{IsDocumentPart, after_document, put_rows}, specs.Changed.ChangesIfReadable}

-- a part whose last row gets a break, and rows after it
abbrev pub closed_with : (front : List Row) → Row → (break : List ℕ) → (new : List Row) → Part → Part
closed_with front r break new p = put_rows front (closed_by break r ∷ new) [] [] p

-- The last row of a part may get a break and new rows after it: the text ends there without one.
pub record TakesRowsLast (p : Part) (front : List Row) (r : Row) (break : List ℕ) (new : List Row) (rest : List ℕ) : Type 0 where
  pub rows_are : p.rows ≡ front ++ (r ∷ [])
  pub end_is : p.end ≡ []
  pub rest_is : rest ≡ []
  pub takes : TakesBreak r break
  pub new_are : AreRows (limit_after r) new [] []

-- One item or entry more is appended at the end of a text without a final break: the last row gets one.
abbrev pub EndAppended : Type 0
EndAppended =
    (t : List ℕ) (c : Cut) (k : ℕ) (p : Part) (steps : List Step) (h : NodeLines) (front new : List Row) (r : Row) (break : List ℕ) (m : ℕ) (l : Line)
    (u : Outline) → IsDocumentPart t c k p →
    IsCollectionAt steps (part_outline p) h → length (lines_of_rows p.rows) ≡ length (lines_before h.place) + length (flatten h.lines) →
    AreAppendedRows h new m l u (length steps) →
    TakesRowsLast p front r break new (after_document k c) →
    ChangesIfReadable c k (closed_with front r break new p) (lead_of p) (changed_at steps (within (append_child (label l) (content_under l u))))
