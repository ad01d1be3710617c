-- Rows that go from the end of a text, after one that stays as it was read (own; you may skip it).
use Rattle.std.specs.Prelude.{◌≡◌, ℕ, ◌+◌, ◌<◌, false, length, reverse, None, Some, slice_get}
use Rattle.yq_row_table.{specs.Kept.moved_end, specs.declared.ends.EndPlace.EndPlace, specs.declared.places.Places.Places}
use Rattle.yq_rows.{specs.Sides.first_byte, specs.declared.kept.Kept.Kept, specs.declared.touched.Touched.Touched}

-- A change takes away the rows after the split, up to the end of the text; of what is in front of them it touches one row alone, which ends where
-- they begin; and so the text ends then (own).
pub record DropsLast (p : Places) (len : ℕ) (x : Touched) (kept : Kept) (last : EndPlace) : Type 0 where
  pub nothing_kept : kept.back ≡ 0
  pub more : x.more ≡ false
  pub marked : x.marked ≡ None
  pub one_end : x.front.ends + 1 ≡ length p.ends
  pub one_row : x.front.rows + 1 ≡ length p.front.items
  pub end : EndPlace
  pub end_is : slice_get p.ends x.front.ends ≡ Some end
  pub gap : end.gap ≡ 0
  pub marker : end.marker ≡ 0
  pub later : length p.front.items < end.rows
  pub begins : first_byte len (reverse p.after.items) ≡ kept.front
  pub last_is : last ≡ moved_end (length p.front.items) kept.front end
