-- A row of a part between other rows, and rows that come after the last one (own).
use Rattle.std.specs.Prelude.{◌≡◌, ℕ, true, List, [], ◌∷◌, ◌++◌, length}
use Rattle.yq_core.specs.Characters.{pairs_returns}
use Rattle.yq_row_table.{specs.Appending.{IsLastRow, TakesBreak, closed_by}, specs.Exchange.allows_first}
use Rattle.yq_row_table.{specs.Grammar.{AreRows, IsCut, Limit, limit_after}, specs.Rows.{Cut, Row, parent_indent, print_row}}
use Rattle.yq_row_table.{specs.Seams.{TailFits, TakesPlace}, specs.SpliceFits.RemovalMeans}
use Rattle.yq_row_table.specs.Splices.{IsRowAmong, asked_at, first_gap, nth_part, replace_row, following_rest}

-- a row of a part, counted from 0, with the rows before and after it there (own)
pub record RowBetween : Type 0 where
  pub cut : Cut
  pub part : ℕ
  pub front : List Row
  pub row : Row
  pub back : List Row

-- It is a row of a text between those: the text has that cut, and the part these rows (own).
pub record IsRowBetween (x : RowBetween) : Type 0 where
  pub text : List ℕ
  pub is_cut : IsCut text x.cut
  pub rows : IsRowAmong x.part x.front x.row x.back x.cut

-- what the rows before the row ask of it (own)
abbrev pub asked_of_row : RowBetween → Limit
asked_of_row x = asked_at x.part (length x.front) x.cut

-- the text after the row (own)
abbrev pub rest_after : RowBetween → List ℕ
rest_after x = following_rest x.part x.back x.cut

-- the cut with another row in the place of that one (own)
abbrev pub cut_with_row : Row → RowBetween → Cut
cut_with_row new x = replace_row x.part x.front (new ∷ []) (first_gap x.back (nth_part x.part x.cut).end) x.cut

-- Another row takes the place of that one, and after it the next row may be (own).
pub record TakesRowPlace (new : Row) (x : RowBetween) : Type 0 where
  pub place : TakesPlace (asked_of_row x) x.row (rest_after x) new (rest_after x)
  pub next : allows_first (limit_after new) x.back ≡ true

-- another row, after the same gap and at the same column, may be in the place of that one (own)
abbrev pub ReplacesRow : Row → RowBetween → Type 0
ReplacesRow new x = RemovalMeans (asked_of_row x) x.row new x.back (rest_after x)

-- another tail may be in the place of the row's (own)
abbrev pub TailFitsRow : List ℕ → RowBetween → Type 0
TailFitsRow new x = TailFits (parent_indent x.row) new x.row.content (rest_after x)

-- rows, of which the last one has no break, the break that it gets, and what comes after it: rows, and a gap at their end (own)
pub record AppendedRows : Type 0 where
  pub front : List Row
  pub row : Row
  pub break : List ℕ
  pub new : List Row
  pub end : List ℕ

-- the last one of those rows, with the break, and what comes after it (own)
abbrev pub closed_rows : AppendedRows → List Row
closed_rows x = closed_by x.break x.row ∷ x.new

-- The last one of those rows may get the break, and the new ones may come after it (own).
pub record MayAppend (x : AppendedRows) : Type 0 where
  pub takes : TakesBreak x.row x.break
  pub rows : AreRows (limit_after x.row) x.new x.end []

-- Rows come after those of which a limit was asked, in whose last one an LF comes after each CR (own).
pub record MayAppendTo (limit : Limit) (x : AppendedRows) : Type 0 where
  pub old : AreRows limit (x.front ++ (x.row ∷ [])) [] []
  pub pairs : pairs_returns (print_row x.row []) ≡ true
  pub more : MayAppend x

-- Rows come after those of part k of a text, after which is nothing (own).
pub record MayAppendIn (k : ℕ) (c : Cut) (x : AppendedRows) : Type 0 where
  pub text : List ℕ
  pub is_cut : IsCut text c
  pub last : IsLastRow k x.front x.row c
  pub more : MayAppend x

-- a cut with them after its last row, which is of part k (own)
abbrev pub cut_appended : ℕ → Cut → AppendedRows → Cut
cut_appended k c x = replace_row k x.front (closed_rows x) x.end c
