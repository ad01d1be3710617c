-- Where rows may be, by the levels of lines (own).
use Rattle.std.specs.Prelude.{◌≡◌, ℕ, ◌<◌, List, [], ◌∷◌, ◌++◌, Some, true, false}
use Rattle.yq_core.specs.Block.{BlockText}
use Rattle.yq_row_table.{specs.Exchange.{allows_first, asked_after}, specs.Grammar.{Limit, AreRows, no_rows}, specs.Rows.Row}
use Rattle.yq_row_table.specs.Removal.{last_block, next_column, IsLessDeep}
use Rattle.yq_outline.{specs.Lines.lines_of_rows, specs.Outline.{Line, level}}
use Rattle.yq_edit_rules.specs.LineRows.{AreClosed, AreDeep, Begins, AreApartLines}

-- After rows whose lines are all deeper than the next row's first one, that row may be.
abbrev pub NextAllowed : Type 0
NextAllowed =
    (n : ℕ) (limit : Limit) (new back : List Row) (end rest : List ℕ) → AreRows limit new end rest → no_rows new ≡ false → AreDeep n (lines_of_rows new) →
    (m : ℕ) → m < n → Begins m (lines_of_rows back) →
    allows_first (asked_after limit new) back ≡ true

-- Where rows are, others may be whose first line is no deeper than theirs.
abbrev pub NextStays : Type 0
NextStays =
    (limit : Limit) (rows back : List Row) (end rest : List ℕ) (l : Line) (ls : List Line) → AreRows limit rows end rest → lines_of_rows rows ≡ l ∷ ls →
    Begins (level l) (lines_of_rows back) →
    allows_first limit back ≡ true

-- What is no deeper than the last line of rows is less deep than the text of a block scalar that they end in.
abbrev pub BlockIsDeeper : Type 0
BlockIsDeeper =
    (limit : Limit) (front rows : List Row) (end rest : List ℕ) (b : BlockText) (l : Line) → AreRows limit (front ++ rows) end rest →
    last_block front ≡ Some b →
    AreApartLines (lines_of_rows front) (l ∷ []) → l.column < b.indent.columns

-- Where lines are closed with those of rows in front of them, rows no deeper than the first of them are less deep than the text of a block scalar in which the
-- rows in front end.
abbrev pub ClosedIsLessDeep : Type 0
ClosedIsLessDeep =
    (limit : Limit) (front gone back : List Row) (end rest : List ℕ) (l : Line) (ls : List Line) → AreRows limit (front ++ gone) end rest →
    AreClosed (lines_of_rows front ++ (l ∷ ls)) →
    Begins (level l) (lines_of_rows back) →
    IsLessDeep (last_block front) (next_column back)
