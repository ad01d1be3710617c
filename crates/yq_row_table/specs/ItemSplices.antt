-- Splices of a cut, by its items: which of them stay, and which are replaced.
use Rattle.std.specs.Prelude.{◌≡◌, ℕ, zero, suc, List, [], ◌∷◌, ◌++◌, take}
use Rattle.yq_row_table.{specs.Items.{Item, row_item, end_item, rows_items, items_of_cut}, specs.Rows.{Row, Cut, last, marked}}
use Rattle.yq_row_table.specs.Splices.{with_row_gap, splice, nth_part, rows_between, back_rows}

-- the items before row i of part k (own)
abbrev pub items_before : (k i : ℕ) → Cut → List Item
items_before k i (last p) = rows_items (take i p.rows) []
items_before zero i (marked p marker c) = rows_items (take i p.rows) []
items_before (suc k) i (marked p marker c) = rows_items p.rows (end_item p.end marker ∷ items_before k i c)

-- the line of the marker after part k, if there is one (own)
abbrev pub marker_after : ℕ → Cut → List ℕ
marker_after k (last p) = []
marker_after zero (marked p marker c) = marker
marker_after (suc k) (marked p marker c) = marker_after k c

-- the first item of rows and of the end after them (own)
abbrev pub first_item : List Row → (gap marker : List ℕ) → Item
first_item [] gap marker = end_item gap marker
first_item (r ∷ rs) gap marker = row_item r

-- the same with another gap (own)
abbrev pub regapped : List ℕ → List Row → (marker : List ℕ) → Item
regapped gap [] marker = end_item gap marker
regapped gap (r ∷ rs) marker = row_item (with_row_gap gap r)

-- The items of a cut, in which other rows, with a gap after them, are in the place of rows from i up to j of part k: those rows and the item after
-- them, whose gap that is, are replaced, and all others stay (own).
pub record SplicedItems (k i j : ℕ) (new : List Row) (gap : List ℕ) (c : Cut) : Type 0 where
  pub back : List Item
  pub old : items_of_cut c ≡
      items_before k i c ++ (rows_items (rows_between k i j c) (first_item (back_rows k j c) (nth_part k c).end (marker_after k c) ∷ []) ++ back)
  pub new_items : items_of_cut (splice k i j new gap c) ≡
      items_before k i c ++ (rows_items new (regapped gap (back_rows k j c) (marker_after k c) ∷ []) ++ back)
