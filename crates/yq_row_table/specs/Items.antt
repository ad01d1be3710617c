-- A cut as a list: its rows and the ends of its parts, one after the other.
use Rattle.std.specs.Prelude.{◌≡◌, ◌⊎◌, ℕ, ◌+◌, Bool, true, List, [], ◌∷◌, ◌++◌}
use Rattle.yq_row_table.{specs.Gap.IsGap, specs.Grammar.{IsRow, Limit, unlimited, limit_after, begins_document, IsMarkerLine}}
use Rattle.yq_row_table.{specs.Rows.{Row, print_row, Cut, last, marked}, specs.View.{Slices, slices, Bound, RowsView}}

-- a row, or the end of a part: the gap after its rows, and the line of the marker after that, which the last part has not (YAML 1.2.2, section 9.1;
-- own)
pub data Item : Type 0 where
  row_item : Row → Item
  end_item : (gap marker : List ℕ) → Item

-- rows before other items (own)
abbrev pub rows_items : List Row → List Item → List Item
rows_items [] xs = xs
rows_items (r ∷ rs) xs = row_item r ∷ rows_items rs xs

-- the rows and ends of a cut in order; the last one is the end of the last part (own)
abbrev pub items_of_cut : Cut → List Item
items_of_cut (last p) = rows_items p.rows (end_item p.end [] ∷ [])
items_of_cut (marked p marker c) = rows_items p.rows (end_item p.end marker ∷ items_of_cut c)

-- the text of items, before a rest (own)
abbrev pub items_text : List Item → List ℕ → List ℕ
items_text [] rest = rest
items_text (row_item r ∷ xs) rest = print_row r (items_text xs rest)
items_text (end_item gap marker ∷ xs) rest = gap ++ (marker ++ items_text xs rest)

-- What items in front ask of the next one: where a row may be, and whether one may, since a document is open (YAML 1.2.2, section 9.1.3; own).
pub record Asked : Type 0 where
  pub limit : Limit
  pub started : Bool

-- what is asked of the first item of a text: nothing (own)
abbrev pub nothing_asked : Asked
nothing_asked = record { limit = unlimited; started = true }

-- what is asked after an item of which that was asked (own)
abbrev pub asked_by : Asked → Item → Asked
asked_by asked (row_item r) = record { limit = limit_after r; started = asked.started }
asked_by asked (end_item gap marker) = record { limit = unlimited; started = begins_document marker }

-- the same of several items (own)
abbrev pub asked_of : Asked → List Item → Asked
asked_of asked [] = asked
asked_of asked (x ∷ xs) = asked_of (asked_by asked x) xs

-- What comes after the gap of a part's end: the line of a marker, or nothing, at the end of the text (YAML 1.2.2, section 9.1).
abbrev pub IsPartEnd : List ℕ → List Item → List ℕ → Type 0
IsPartEnd marker xs rest = IsMarkerLine marker (items_text xs rest) ⊎ ((marker ≡ []) × (xs ≡ []) × (rest ≡ []))

-- an item before others and a rest, where that is asked of it (own)
abbrev pub IsItem : Asked → Item → List Item → List ℕ → Type 0
IsItem asked (row_item r) xs rest = (asked.started ≡ true) × IsRow asked.limit r (items_text xs rest)
IsItem asked (end_item gap marker) xs rest = IsGap gap (marker ++ items_text xs rest) × IsPartEnd marker xs rest

-- items one after the other, before a rest (own)
abbrev pub AreRowItems : Asked → List Item → List ℕ → Type 0
AreRowItems asked [] rest = Unit {0}
AreRowItems asked (x ∷ xs) rest = IsItem asked x xs rest × AreRowItems (asked_by asked x) xs rest

-- the rows of items, by their pieces (own)
abbrev pub rows_in_items : List Item → List Slices
rows_in_items [] = []
rows_in_items (row_item r ∷ xs) = slices r ∷ rows_in_items xs
rows_in_items (end_item gap marker ∷ xs) = rows_in_items xs

-- the ends of parts among items, before which so many rows are (own)
abbrev pub bounds_in_items : ℕ → List Item → List Bound
bounds_in_items n [] = []
bounds_in_items n (row_item r ∷ xs) = bounds_in_items (n + 1) xs
bounds_in_items n (end_item gap marker ∷ xs) = record { rows = n; end = gap; marker = marker } ∷ bounds_in_items n xs

-- items, as the code lends them (own)
abbrev pub view_of_items : List Item → RowsView
view_of_items xs = record { rows = rows_in_items xs; bounds = bounds_in_items 0 xs }
