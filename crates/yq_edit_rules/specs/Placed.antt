-- Where the lines of a node, an entry or an item are among the lines of rows, by their numbers (own).
use Rattle.std.specs.Prelude.{◌≡◌, ℕ, ◌+◌, List, [], ◌∷◌, ◌++◌, length, Some}
use Rattle.yq_core.specs.Paths.{Step}
use Rattle.yq_row_table.specs.Rows.{Row, Part}
use Rattle.yq_outline.{specs.Laws.with_lines, specs.Lines.lines_of_rows, specs.Outline.{Line, flatten, IsEven}}
use Rattle.yq_outline.specs.Places.{lines_before, FoundLine, find}
use Rattle.yq_documents.specs.Reading.{part_outline}
use Rattle.yq_edit_rules.specs.Siblings.{IsEntry, NodeLines, put_lines, IsEntryAt}

-- Lines in three parts are in the same three parts wherever these have the same lengths.
abbrev pub SameParts : Type 0
SameParts = (a x z b y w : List Line) → a ++ (x ++ z) ≡ b ++ (y ++ w) → length a ≡ length b → length x ≡ length y → (a ≡ b) × (x ≡ y) × (z ≡ w)

-- The lines of rows in three parts are those of each part.
abbrev pub RowsInParts : Type 0
RowsInParts = (before come after : List Row) → lines_of_rows (before ++ (come ++ after)) ≡ lines_of_rows before ++ (lines_of_rows come ++ lines_of_rows after)

-- Lines are in three parts, with so many in each of the first two.
pub record ArePartedAt (ls a x z : List Line) (before size : ℕ) : Type 0 where
  pub parts_are : ls ≡ a ++ (x ++ z)
  pub before_are : length a ≡ before
  pub size_is : length x ≡ size

-- Of lines in three parts, the second is that of a line that was found and those under it, if it is as long and as many come before it.
abbrev pub LinePlaced : Type 0
LinePlaced =
    (n : ℕ) (p : Part) (s : Step) (ss rest : List Step) (f : FoundLine) (a x z : List Line) → IsEven n (part_outline p) →
    find s ss (part_outline p) ≡ Some (f, rest) →
    ArePartedAt (lines_of_rows p.rows) a x z (length (lines_before f.place)) (length (f.line ∷ flatten f.under)) →
    (x ≡ f.line ∷ flatten f.under) × ((ls : List Line) → with_lines f ls ≡ a ++ (ls ++ z))

-- The same of the lines of an item or entry of that node.
abbrev pub EntryPlaced : Type 0
EntryPlaced =
    (n : ℕ) (p : Part) (steps : List Step) (h : NodeLines) (s : Step) (f : FoundLine) (a x z : List Line) → IsEven n (part_outline p) →
    IsEntryAt steps s (part_outline p) h f →
    ArePartedAt (lines_of_rows p.rows) a x z (length (lines_before h.place) + length (lines_before f.place)) (length (f.line ∷ flatten f.under)) →
    (x ≡ f.line ∷ flatten f.under) × ((ls : List Line) → put_lines h (with_lines f ls) ≡ a ++ (ls ++ z))

-- Where no steps are left, the line that was found is an entry's or item's.
abbrev pub FoundIsEntry : Type 0
FoundIsEntry =
    (n : ℕ) (p : Part) (s : Step) (ss : List Step) (f : FoundLine) → IsEven n (part_outline p) → find s ss (part_outline p) ≡ Some (f, []) →
    IsEntry f.line.mark
