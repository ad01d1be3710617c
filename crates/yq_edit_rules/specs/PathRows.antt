-- The row to which a path leads (own).
use Rattle.std.specs.Prelude.{◌≡◌, ℕ, List, [], ◌∷◌, ◌++◌, length, Some}
use Rattle.yq_core.specs.Paths.{Step, changed_at, relabel_child, within}
use Rattle.yq_outline.{specs.Comments.{line_comment, head_comment}, specs.Lines.lines_of_rows, specs.Outline.{Outline, IsEven}}
use Rattle.yq_outline.{specs.Places.FoundLine, specs.Ends.line_at_steps}
use Rattle.yq_row_table.specs.Rows.{Row, Part, Cut}
use Rattle.yq_documents.{specs.Documents.lead_of, specs.Reading.part_outline, specs.LinesInRows.{RowLine, row_line_of}}
use Rattle.yq_documents.specs.TreeEdits.{with_head_comment, with_line_comment}
use Rattle.yq_edit_rules.{specs.Siblings.{IsEntryAt, NodeLines}, specs.Heads.{rerun, TakesRun}, specs.LineRows.lines_before_entry}
use Rattle.yq_edit_rules.{specs.DocumentRows.{IsDocumentPart, after_document}, specs.LineComments.{retailed, TakesTail}}
use Rattle.yq_edit_rules.specs.Changed.{ChangesIfReadable}

-- Line n is that of an item or entry of the block collection at a path.
pub record IsEntryLine (steps : List Step) (s : Step) (o : Outline) (n : ℕ) : Type 0 where
  pub h : NodeLines
  pub f : FoundLine
  pub entry : IsEntryAt steps s o h f
  pub number : n ≡ lines_before_entry h f

-- The line to which a path leads is that of an item or entry of a block collection.
abbrev pub PathIsEntry : Type 0
PathIsEntry =
    (p : Part) (m : ℕ) (steps : List Step) (s : Step) (n : ℕ) → IsEven m (part_outline p) →
    line_at_steps (steps ++ (s ∷ [])) (lines_of_rows p.rows) ≡ Some n → IsEntryLine steps s (part_outline p) n

-- The line comment at a path is set, where the path's line is the last of its row.
abbrev pub PathLineCommented : Type 0
PathLineCommented =
    (t : List ℕ) (c : Cut) (k : ℕ) (p : Part) (steps : List Step) (s : Step) (x : RowLine) (front back : List Row) (tail : List ℕ) → IsDocumentPart t c k p →
    row_line_of (steps ++ (s ∷ [])) p.rows ≡ Some x → x.line ≡ length x.row.dashes → TakesTail p front x.row back tail (after_document k c) →
    length front ≡ x.before →
    ChangesIfReadable c k (retailed front x.row back tail p) (lead_of p)
    (changed_at steps (within (relabel_child s (with_line_comment (line_comment tail)))))

-- The head comment at a path is set, where the path's line is the first of its row.
abbrev pub PathHeadCommented : Type 0
PathHeadCommented =
    (t : List ℕ) (c : Cut) (k : ℕ) (p : Part) (steps : List Step) (s : Step) (x : RowLine) (front back : List Row) (run : List ℕ) → IsDocumentPart t c k p →
    row_line_of (steps ++ (s ∷ [])) p.rows ≡ Some x → x.line ≡ 0 → TakesRun p front x.row back run (after_document k c) → length front ≡ x.before →
    ChangesIfReadable c k (rerun front x.row back run p) (lead_of (rerun front x.row back run p))
    (changed_at steps (within (relabel_child s (with_head_comment (head_comment run)))))
