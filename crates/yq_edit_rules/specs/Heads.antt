-- Head comments of items and entries, put and taken away (own).
use Rattle.std.specs.Prelude.{◌≡◌, ◌⊎◌, ℕ, List, [], ◌∷◌, ◌++◌, length, replicate}
use Rattle.yq_core.{specs.Paths.{Step, changed_at, relabel_child, within}, specs.Text.{joined, text_lines}}
use Rattle.yq_outline.{specs.Comments.head_comment, specs.Lines.lines_of_rows, specs.Places.FoundLine}
use Rattle.yq_row_table.{specs.Gap.IsGap, specs.Rows.{Row, following_gap, rows_text, Part, Cut}}
use Rattle.yq_documents.{specs.Pieces.before_run, specs.Documents.lead_of, specs.Reading.part_outline, specs.TreeEdits.with_head_comment}
use Rattle.yq_edit_rules.{specs.Siblings.{IsEntryAt, NodeLines}, specs.LineRows.lines_before_entry}
use Rattle.yq_edit_rules.{specs.DocumentRows.{IsDocumentPart, after_document, put_rows}, specs.Changed.ChangesIfReadable}

-- What is written for a head comment before a rest: comment lines of which the first begins in a column, or nothing.
pub record IsHeadCommentRun (column : ℕ) (run rest : List ℕ) : Type 0 where
  pub gap : IsGap run rest
  pub is_located : (run ≡ []) ⊎ ((v : List ℕ) × (run ≡ replicate column 32 ++ (35 ∷ v)))

-- the gap of a row with other lines in the place of its head comment's
abbrev pub with_run : Row → List ℕ → List ℕ
with_run r run = joined (before_run (text_lines r.gap)) ++ run

-- a part in which a row has another head comment
abbrev pub rerun : (front : List Row) → Row → (back : List Row) → List ℕ → Part → Part
rerun front r back run p = put_rows front [] (r ∷ back) (with_run r run) p

-- A row of a part may have these lines for its head comment before a rest.
pub record TakesRun (p : Part) (front : List Row) (r : Row) (back : List Row) (run rest : List ℕ) : Type 0 where
  pub rows_are : p.rows ≡ front ++ (r ∷ back)
  pub run_is : IsHeadCommentRun r.column run (following_gap r (rows_text back (p.end ++ rest)))

-- The head comment of an item or entry is set, where its line is the first of its row.
abbrev pub HeadCommented : Type 0
HeadCommented =
    (t : List ℕ) (c : Cut) (k : ℕ) (p : Part) (steps : List Step) (s : Step) (h : NodeLines) (f : FoundLine) (front back : List Row) (r : Row) (run : List ℕ) →
    IsDocumentPart t c k p →
    IsEntryAt steps s (part_outline p) h f → TakesRun p front r back run (after_document k c) → length (lines_of_rows front) ≡ lines_before_entry h f →
    ChangesIfReadable c k (rerun front r back run p) (lead_of (rerun front r back run p))
    (changed_at steps (within (relabel_child s (with_head_comment (head_comment run)))))
