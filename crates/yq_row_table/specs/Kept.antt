-- Rows kept by where they are (own; you may skip it): in front of a split by the distance from the text's beginning, after it by
-- that to the text's end.
use Rattle.std.{specs.Prelude.{◌≡◌, ℕ, ◌+◌, ◌-◌, ◌<◌, ◌^◌, List, [], ◌∷◌, ◌++◌, drop, length, map, reverse, Option, Some}, specs.Str.IsUtf8}
use Rattle.yq_core.specs.Answers.{◌>>=◌}
use Rattle.yq_text.specs.declared.halves.Halves.{Halves}
use Rattle.yq_row_table.specs.Ends.{bounds_in_halves, end_at}
use Rattle.yq_row_table.specs.Items.{Item, row_item, end_item, items_of_cut, items_text, rows_items, view_of_items}
use Rattle.yq_row_table.{specs.Offsets.{AreTexts, offsets_of, pieces_of, rows_in}, specs.Rows.{print_row, Part, Cut}}
use Rattle.yq_row_table.{specs.View.{slices, RowsView, Slices}, specs.declared.ends.EndPlace.EndPlace, specs.declared.places.Places.Places}
use Rattle.yq_row_table.specs.declared.offsets.Offsets as declared

-- the rows of items, of which so many bytes are in front (own)
abbrev pub near : ℕ → List Item → List declared.Offsets
near n [] = []
near n (row_item r ∷ xs) = offsets_of n (slices r) ∷ near (n + length (print_row r [])) xs
near n (end_item gap marker ∷ xs) = near (n + length (gap ++ marker)) xs

-- the ends of parts among items, of which so many bytes and so many rows are in front (own)
abbrev pub ends_near : ℕ → ℕ → List Item → List EndPlace
ends_near n k [] = []
ends_near n k (row_item r ∷ xs) = ends_near (n + length (print_row r [])) (k + 1) xs
ends_near n k (end_item gap marker ∷ xs) = end_at n k gap marker ∷ ends_near (n + length (gap ++ marker)) k xs

-- rows that are read after others, of which so many bytes are in front (own)
abbrev pub rows_placed : List declared.Offsets → ℕ → Option (Part × List ℕ) → Option (List declared.Offsets)
rows_placed offsets n read = read >>= λ x. Some (offsets ++ near n (rows_items x.0.rows []))

-- the same of all parts (own)
abbrev pub parts_placed : List declared.Offsets → ℕ → Option Cut → Option (List declared.Offsets)
parts_placed offsets n read = read >>= λ c. Some (offsets ++ near n (items_of_cut c))

-- the ends of all parts, after others (own)
abbrev pub ends_placed : List EndPlace → ℕ → ℕ → Option Cut → Option (List EndPlace)
ends_placed ends n k read = read >>= λ c. Some (ends ++ ends_near n k (items_of_cut c))

-- the pieces of items are characters (own)
abbrev pub TextsIn : List Item → Type 0
TextsIn [] = Unit {0}
TextsIn (row_item r ∷ xs) = AreTexts (slices r) × TextsIn xs
TextsIn (end_item gap marker ∷ xs) = IsUtf8 gap × IsUtf8 marker × TextsIn xs

-- the rows of items at the end of a text, by how far from there they begin (own)
abbrev pub far : List Item → List declared.Offsets
far [] = []
far (row_item r ∷ xs) = offsets_of (length (items_text (row_item r ∷ xs) [])) (slices r) ∷ far xs
far (end_item gap marker ∷ xs) = far xs

-- the place of a row in a text of so many bytes, measured from the other end (own)
abbrev pub row_from_end : ℕ → declared.Offsets → declared.Offsets
row_from_end n o = record o { start = n - o.start }

-- the place of a row before which so many bytes more are (own)
abbrev pub raised : ℕ → declared.Offsets → declared.Offsets
raised n o = record o { start = o.start + n }

-- the end of a part before which so many rows and so many bytes are, by the lengths of another one (own)
abbrev pub moved_end : ℕ → ℕ → EndPlace → EndPlace
moved_end rows start e = record e { rows = rows; start = start }

-- the rows in front of the split and those after it, as they are kept (own)
abbrev pub kept_rows : Places → List declared.Offsets
kept_rows p = p.front.items ++ reverse p.after.items

-- the same by their places in a text of so many bytes (own)
abbrev pub placed_rows : ℕ → Places → List declared.Offsets
placed_rows n p = p.front.items ++ map (row_from_end n) (reverse p.after.items)

-- Rows and ends of parts are kept where those of items in front of the split and after it are, one after the other, whose pieces are characters (own).
pub record ArePlaced (p : Places) (before after : List Item) : Type 0 where
  pub split_is : p.split ≡ length (items_text before [])
  pub front_are : p.front.items ≡ near 0 before
  pub after_are : reverse p.after.items ≡ far after
  pub ends_are : p.ends ≡ ends_near 0 0 (before ++ after)
  pub texts : TextsIn (before ++ after)
  pub small : length (items_text (before ++ after) []) < 2 ^ 32

-- These are the rows and ends of a text that are kept so (own).
pub record IsPlaced (p : Places) (s : RowsView) : Type 0 where
  pub before : List Item
  pub after : List Item
  pub placed : ArePlaced p before after
  pub rows_view_is : s ≡ view_of_items (before ++ after)

-- Rows and ends of parts are kept where those of the two halves of a text are (own).
pub record HavePlaces (text : Halves) (p : Places) : Type 0 where
  pub before : List Item
  pub after : List Item
  pub placed : ArePlaced p before after
  pub front_is : text.front.now ≡ items_text before []
  pub back_is : text.back.now ≡ items_text after []

-- the pieces of a row after the split, in the second half of the text (own)
abbrev pub slices_after : List ℕ → declared.Offsets → Slices
slices_after back o = pieces_of (drop (length back - o.start) back) o

-- rows and ends of parts, by where they are kept, of a text in two halves (own)
abbrev pub halves_view : Halves → Places → RowsView
halves_view text p = record {
  rows = rows_in text.front.now p.front.items ++ map (slices_after text.back.now) (reverse p.after.items);
  bounds = bounds_in_halves text p.ends;
}
