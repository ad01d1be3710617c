-- What is in front of items that a change touches, and in front of those after them, by places (own; you may skip it).
use Rattle.std.specs.Prelude.{◌≡◌, ◌==◌, ◌&&◌, Bool, ℕ, suc, ◌+◌, ◌-◌, ◌<◌, ◌≤◌, ◌^◌, nat_le, nat_lt, List, [], ◌∷◌, ◌++◌, length, map}
use Rattle.std.specs.Prelude.{reverse, Option, Some, None, slice_get, if◌then◌else◌}
use Rattle.yq_core.specs.Answers.{◌>>=◌}
use Rattle.yq_row_table.{specs.Items.{Item, items_text}, specs.Kept.{near, ends_near, placed_rows, row_from_end, TextsIn}}
use Rattle.yq_row_table.{specs.Touched.before_offset, specs.declared.ends.EndPlace.EndPlace, specs.declared.places.Places.Places}
use Rattle.yq_rows.specs.declared.sides.Side.{Side}
use Rattle.yq_row_table.specs.declared.offsets.Offsets as declared

-- how long the text of items is (own)
abbrev pub text_length : List Item → ℕ
text_length xs = length (items_text xs [])

-- rows in front of a split and those after it, the last one first, by their places in a text of so many bytes (own)
abbrev pub both_sides : ℕ → List declared.Offsets → List declared.Offsets → List declared.Offsets
both_sides n front after = front ++ map (row_from_end n) (reverse after)

-- where the first of rows that are kept by their distance from the end of a text begins, or where the text ends (own)
abbrev pub first_byte : ℕ → List declared.Offsets → ℕ
first_byte n [] = n
first_byte n (o ∷ os) = n - o.start

-- Rows and ends of parts are kept where those of these items are, one after the other, whose pieces are characters (own).
pub record AreAt (p : Places) (xs : List Item) : Type 0 where
  pub rows_are : placed_rows (text_length xs) p ≡ near 0 xs
  pub ends_are : p.ends ≡ ends_near 0 0 xs
  pub texts : TextsIn xs
  pub small : text_length xs < 2 ^ 32

-- the last of some rows begins in front of an offset (own)
abbrev pub LastBefore : ℕ → List declared.Offsets → Type 0
LastBefore at rows = (o : declared.Offsets) → slice_get rows (length rows - 1) ≡ Some o → o.start < at

-- the first of some rows that are kept last first, in a text of so many bytes, begins at an offset or after it (own)
abbrev pub FirstFrom : ℕ → ℕ → List declared.Offsets → Type 0
FirstFrom at len rows = (o : declared.Offsets) → slice_get rows (length rows - 1) ≡ Some o → at ≤ len - o.start

-- the split among rows is at an offset of a text of so many bytes (own)
abbrev pub IsSplitAt : ℕ → ℕ → Places → Type 0
IsSplitAt at len p = LastBefore at p.front.items × FirstFrom at len p.after.items

-- how many ends of parts begin in front of an offset, up to the first one that doesn't (own)
abbrev pub ends_before : ℕ → List EndPlace → ℕ
ends_before at [] = 0
ends_before at (e ∷ es) = if nat_lt e.start at then suc (ends_before at es) else 0

-- rows by their distance from the end of a text, without the first ones, up to the first one that is nearer than so many bytes (own)
abbrev pub nearer : ℕ → List declared.Offsets → List declared.Offsets
nearer back [] = []
nearer back (o ∷ os) = if nat_lt o.start back then o ∷ os else nearer back os

-- the items that don't begin after the place that is so many bytes in front of the end of their text (own)
abbrev pub not_in_back : ℕ → List Item → List Item
not_in_back n [] = []
not_in_back n (i ∷ is) = if nat_lt (text_length (i ∷ is)) n then [] else i ∷ not_in_back n is

-- so many rows come before the end of a part, and the line of its marker, if there is one, begins at an offset or after it (own)
abbrev pub keeps_marker : EndPlace → (rows at : ℕ) → Bool
keeps_marker e rows at = e.rows == rows && nat_lt 0 e.marker && nat_le at (e.start + e.gap)

-- the last end of a part after one place and in front of another one, where it is the last item there and keeps its marker (own)
abbrev pub marked_end : List EndPlace → (front old : Side) → ℕ → Option EndPlace
marked_end ends front old at =
    if nat_le old.ends front.ends then None
    else (slice_get ends (old.ends - 1) >>= λ e. if keeps_marker e old.rows at then Some e else None)

-- so many rows come before the end of a part, and the line of its marker, if there is one, ends at an offset (own)
abbrev pub ends_at : EndPlace → (rows at : ℕ) → Bool
ends_at e rows at = e.rows == rows && nat_lt 0 e.marker && ((e.start + e.gap) + e.marker) == at

-- what is in front of the place after the end of a part, where that comes next after some others and its marker's line ends at an offset, at which
-- a line begins; else what is in front of it (own)
abbrev pub past_end : Option EndPlace → Side → (at : ℕ) → (begins : Bool) → Side
past_end None front at begins = front
past_end (Some e) front at begins =
    if begins && ends_at e front.rows at then record { rows = front.rows; ends = front.ends + 1; bytes = at } else front

-- how many rows, ends of parts and bytes items are (own)
abbrev pub side_of : List Item → Side
side_of xs = record { rows = length (near 0 xs); ends = length (ends_near 0 0 xs); bytes = text_length xs }

-- nothing in front (own)
abbrev pub origin : Side
origin = record { rows = 0; ends = 0; bytes = 0 }

-- this is what is in front of the last item that begins in front of an offset, at which the split is (own)
abbrev pub IsSideBefore : Places → ℕ → Side → Type 0
IsSideBefore p at side = (xs : List Item) → AreAt p xs → IsSplitAt at (text_length xs) p → at ≤ text_length xs → side ≡ side_of (before_offset at xs)

-- this is what is in front of the first item that is nearer to the end than so many bytes, where the split is in front of it (own)
abbrev pub IsSideAfter : Places → (len back : ℕ) → Side → Type 0
IsSideAfter p len back side =
    (xs : List Item) (at : ℕ) → AreAt p xs → IsSplitAt at len p → at + back ≤ len → len ≡ text_length xs → side ≡ side_of (not_in_back back xs)
