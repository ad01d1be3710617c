-- The rows in which lines begin and end (own).
use Rattle.std.specs.Prelude.{◌≡◌, ℕ, ◌+◌, ◌≤◌, List, [], ◌∷◌, ◌++◌, length, Some, is_some, true, ⊤}
use Rattle.yq_core.specs.Paths.{Step}
use Rattle.yq_row_table.specs.Rows.{Row}
use Rattle.yq_outline.{specs.Lines.lines_of_rows, specs.Outline.{Line, level, Outline, flatten, IsEven}}
use Rattle.yq_outline.specs.Places.{lines_before, lines_after, FoundLine}
use Rattle.yq_documents.specs.LinesInRows.{RowLine, row_line}
use Rattle.yq_edit_rules.specs.Siblings.{HasEntries, NodeLines, lines_at, IsEntryAt}

-- how many lines come before an item or entry
abbrev pub lines_before_entry : NodeLines → FoundLine → ℕ
lines_before_entry h f = length (lines_before h.place) + length (lines_before f.place)

-- A row line is the row of line n among rows, and the number of that line in it.
pub record IsRowLine (n : ℕ) (rs : List Row) (x : RowLine) : Type 0 where
  pub front : List Row
  pub back : List Row
  pub rows_are : rs ≡ front ++ (x.row ∷ back)
  pub before : length front ≡ x.before
  pub lines : n ≡ length (lines_of_rows front) + x.line
  pub less : x.line ≤ length x.row.dashes

-- A line's row line is its row and its number in it.
abbrev pub RowLineSplits : Type 0
RowLineSplits = (n : ℕ) (rs : List Row) (x : RowLine) → row_line n rs ≡ Some x → IsRowLine n rs x

-- the first of lines, if there is one, is no deeper than a level (8.2)
abbrev pub Begins : ℕ → List Line → Type 0
Begins n [] = ⊤
Begins n (l ∷ ls) = level l ≤ n

-- the first of lines is no deeper than the last of those before them (8.2)
abbrev pub AreApartLines : List Line → List Line → Type 0
AreApartLines [] zs = ⊤
AreApartLines (l ∷ []) zs = Begins (level l) zs
AreApartLines (l ∷ (k ∷ ls)) zs = AreApartLines (k ∷ ls) zs

-- Rows are in two parts, of which the first has these lines, and the second those after them.
pub record InRows (rs : List Row) (a z : List Line) : Type 0 where
  pub front : List Row
  pub back : List Row
  pub rows_are : rs ≡ front ++ back
  pub front_lines : lines_of_rows front ≡ a
  pub back_lines : lines_of_rows back ≡ z

-- A line that is no deeper than the one before it begins a row.
abbrev pub RowBegins : Type 0
RowBegins = (rs : List Row) (a z : List Line) → lines_of_rows rs ≡ a ++ z → AreApartLines a z → InRows rs a z

-- After the lines of the block collection at a path a row begins; its first line is less deep than they are.
abbrev pub LinesApart : Type 0
LinesApart =
    (n : ℕ) (o : Outline) (steps : List Step) (h : NodeLines) → IsEven n o → lines_at steps o ≡ Some h → HasEntries h.lines →
    AreApartLines (lines_before h.place ++ flatten h.lines) (lines_after h.place) × Begins h.above (lines_after h.place)

-- the lines after those of an item or entry
abbrev pub following_lines : NodeLines → FoundLine → List Line
following_lines h f = (flatten f.after ++ lines_after f.place) ++ lines_after h.place

-- An item or entry, but for the first one, begins no deeper than the line before it, and what is after it is no deeper than its last line and its own one.
pub record EntryApart (h : NodeLines) (f : FoundLine) : Type 0 where
  pub begin : (lines_before f.place ≡ [] → ⊥) → AreApartLines (lines_before h.place ++ lines_before f.place) ((f.line ∷ flatten f.under) ++ following_lines h f)
  pub end : AreApartLines ((lines_before h.place ++ lines_before f.place) ++ (f.line ∷ flatten f.under)) (following_lines h f)
  pub next : Begins (level f.line) (following_lines h f)

-- After the lines of an item or entry a row begins, and so it does where they begin, but for the first one; the line after them is no deeper.
abbrev pub EntriesApart : Type 0
EntriesApart = (n : ℕ) (o : Outline) (steps : List Step) (s : Step) (h : NodeLines) (f : FoundLine) → IsEven n o → IsEntryAt steps s o h f → EntryApart h f

-- each of these lines is at least as deep as a level (8.2)
abbrev pub AreDeep : ℕ → List Line → Type 0
AreDeep n [] = ⊤
AreDeep n (l ∷ ls) = (n ≤ level l) × AreDeep n ls

-- after a line with a head is no deeper one (8.2)
abbrev pub AreClosed : List Line → Type 0
AreClosed [] = ⊤
AreClosed (l ∷ ls) = (is_some l.head ≡ true → Begins (level l) ls) × AreClosed ls

-- Even lines are closed.
abbrev pub EvenClosed : Type 0
EvenClosed = (n : ℕ) (o : Outline) → IsEven n o → AreClosed (flatten o)
