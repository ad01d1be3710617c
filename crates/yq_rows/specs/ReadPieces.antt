-- What the readers of rows give, as pieces of rows (own; you may skip it).
use Rattle.std.specs.Prelude.{◌≡◌, ℕ, Bool, true, false, List, ◌++◌, Some}
use Rattle.yq_inline.specs.declared.measuring.MeasuredKind.{MeasuredKind}
use Rattle.yq_rows.{specs.declared.content.Filling.Filling, specs.declared.marks.RowMark.RowMark as Sign, specs.declared.marks.Begin.Begin}
use Rattle.yq_row_table.{specs.Grammar.Limit, specs.Rows.{RowMark, Bare, Dash, Key}, specs.View.Slices}
use Rattle.yq_row_table.specs.Slicing.{Begun, Filled, row_of, row_sliced}
use Rattle.yq_inline.specs.declared.measuring.MeasuredKind.TheVariants as kinds
use Rattle.yq_rows.specs.declared.marks.RowMark.TheVariants as signs
use Rattle.yq_rows.specs.declared.limit.Limit as asked

-- what the code's limit asks of the next row (own)
abbrev pub limit_view : asked.Limit → Limit
limit_view limit = record { column = limit.column }

-- the mark that the code read (own)
abbrev pub mark_view : Sign → RowMark
mark_view signs.Bare = Bare
mark_view signs.Dash = Dash
mark_view (signs.Key key colon) = Key key.now colon.now

-- the same of the code (own)
abbrev pub begin_view : Begin → Begun
begin_view b = record { dashes = b.dashes.now; columns = b.columns; mark = mark_view b.mark; rest = b.rest.now }

-- the same of the code (own)
abbrev pub filling_view : Filling → Filled
filling_view f = record {
  space = f.space.now;
  anchor = f.anchor.now;
  apart = f.apart.now;
  head = f.head.now;
  tail = f.tail.now;
  raw = f.raw.now;
  plain = f.plain;
  alone = f.alone;
  rest = f.rest.now;
}

-- the pieces of a row, as the code read them (own)
abbrev pub read_slices : List ℕ → ℕ → Begin → Filling → Slices
read_slices gap column b f = (row_of gap column (begin_view b) (filling_view f)).0

-- These are the gap, the column, the marks and the content of a row that was read in front of a text (own).
pub record IsSliced (text gap : List ℕ) (column : ℕ) (b : Begin) (f : Filling) : Type 0 where
  pub limit : Limit
  pub after : List ℕ
  pub joined : text ≡ gap ++ after
  pub read : row_sliced limit gap after ≡ Some (row_of gap column (begin_view b) (filling_view f))

-- a plain scalar, by its kind (own)
abbrev pub is_plain_kind : MeasuredKind → Bool
is_plain_kind kinds.Nothing = false
is_plain_kind kinds.Alias = false
is_plain_kind kinds.Plain = true
is_plain_kind kinds.Quoted = false
is_plain_kind kinds.Collection = false
