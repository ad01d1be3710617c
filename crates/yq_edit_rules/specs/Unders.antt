-- The rows under an item or entry, where what is written after its mark is replaced by another content (own).
use Rattle.std.specs.Prelude.{◌≡◌, ℕ, ◌+◌, List, [], ◌∷◌, ◌++◌, length, Some}
use Rattle.yq_core.specs.Paths.{Step}
use Rattle.yq_outline.{specs.Outline.flatten, specs.Places.{lines_before, FoundLine, find}, specs.Lines.lines_of_rows}
use Rattle.yq_row_table.specs.Rows.{Content, Inline, Row, Part}
use Rattle.yq_documents.specs.Reading.{part_outline}
use Rattle.yq_core.specs.Nodes as inline

-- Steps lead to an item or entry whose line is that of a row's mark, with these rows under it, between others in front and others after.
pub record HasUnder (p : Part) (s : Step) (ss : List Step) (front : List Row) (r : Row) (under back : List Row) : Type 0 where
  pub found : FoundLine
  pub is : find s ss (part_outline p) ≡ Some (found, [])
  pub rows_are : p.rows ≡ front ++ (r ∷ (under ++ back))
  pub number : length (lines_of_rows front) + length r.dashes ≡ length (lines_before found.place)
  pub count : length (lines_of_rows under) ≡ length (flatten found.under)

-- an inline node after a space, as a content
abbrev pub spaced_content : inline.FlowNode → List ℕ → Content
spaced_content node tail = Inline (32 ∷ []) node tail
