-- The first entry or item of a compact collection taken out: the next one's row comes after the dash (8.2.1; own).
use Rattle.std.specs.Prelude.{◌≡◌, ℕ, suc, ◌+◌, List, [], ◌∷◌, ◌++◌, None}
use Rattle.yq_outline.{specs.Comments.{head_comment, line_comment}, specs.Lines.{dash_line, lines_from, lines_of_rows}, specs.Outline.Line}
use Rattle.yq_row_table.specs.Rows.{Content, Nothing, Row, after_columns}
use Rattle.yq_row_table.specs.Rows as rows

-- the lines of dashes, from a column on
abbrev pub dash_lines : List (List ℕ) → ℕ → List ℕ → List Line
dash_lines above column [] = []
dash_lines above column (n ∷ ns) = dash_line above column ∷ dash_lines [] (suc (column + n)) ns

-- a row after the first dashes of another one, whose gap and column it takes
abbrev pub moved_up : Row → List ℕ → Row → Row
moved_up r dashes b = record b { gap = r.gap; column = r.column; dashes = dashes ++ b.dashes }

-- a row with nothing after its last dash
abbrev pub emptied_row : Row → List ℕ → List ℕ → Row
emptied_row r dashes tail = record r { dashes = dashes; mark = rows.Dash; content = Nothing tail }

-- the lines before a row, and those of its first dashes, which begin with the comments above it
abbrev pub lines_to_dashes : List Row → Row → List ℕ → List Line
lines_to_dashes before r dashes = lines_of_rows before ++ dash_lines (head_comment r.gap) r.column dashes

-- the lines of what a row has after its first dashes, from a column on, and those of the rows after it
abbrev pub lines_after_dashes : (column : ℕ) → List ℕ → Row → List Row → List Line
lines_after_dashes column dashes r gone = lines_from [] column dashes r.mark r.content ++ lines_of_rows gone

-- Where the next entry's row b, in the same column and with no comment above it, comes after the first dashes of row r, the lines are the old ones without
-- those of the first entry.
abbrev pub FirstMoved : Type 0
FirstMoved =
    (before gone after : List Row) (r b : Row) (n : ℕ) (ns es : List ℕ) → r.dashes ≡ n ∷ (ns ++ es) → b.column ≡ after_columns r.column (n ∷ ns) →
    head_comment b.gap ≡ [] →
    (lines_of_rows (before ++ (r ∷ (gone ++ (b ∷ after)))) ≡
    lines_to_dashes before r (n ∷ ns) ++ (lines_after_dashes b.column es r gone ++ lines_of_rows (b ∷ after))) ×
    (lines_of_rows (before ++ (moved_up r (n ∷ ns) b ∷ after)) ≡ lines_to_dashes before r (n ∷ ns) ++ lines_of_rows (b ∷ after))

-- The same where nothing but a tail without a comment stays after the dashes, and the rows after the first entry keep their places.
abbrev pub FirstEmptied : Type 0
FirstEmptied =
    (before gone after : List Row) (r : Row) (n : ℕ) (ns es tail : List ℕ) → r.dashes ≡ (ns ++ (n ∷ [])) ++ es → line_comment tail ≡ None →
    (lines_of_rows (before ++ (r ∷ (gone ++ after))) ≡
    lines_to_dashes before r (ns ++ (n ∷ [])) ++ (lines_after_dashes (after_columns r.column (ns ++ (n ∷ []))) es r gone ++ lines_of_rows after)) ×
    (lines_of_rows (before ++ (emptied_row r ns tail ∷ after)) ≡ lines_to_dashes before r (ns ++ (n ∷ [])) ++ lines_of_rows after)

-- The lines of a row are those of its first dashes, and then those of a row that begins after them and has no comment above it.
abbrev pub DashesFirst : Type 0
DashesFirst =
    (above : List (List ℕ)) (column n : ℕ) (ns es : List ℕ) (mark : rows.RowMark) (c : Content) →
    lines_from above column (n ∷ (ns ++ es)) mark c ≡ dash_lines above column (n ∷ ns) ++ lines_from [] (after_columns column (n ∷ ns)) es mark c
