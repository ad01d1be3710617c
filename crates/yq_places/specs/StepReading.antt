-- Reading (own; you may skip it): the steps of a document, by how deep its lines are, row by row.
use Rattle.std.specs.Prelude.{◌≡◌, ⊤, ℕ, ◌%◌, ◌==◌, ◌&&◌, ◌<◌, nat_lt, Bool, false, true, if◌then◌else◌, List, [], ◌∷◌, take, drop}
use Rattle.std.specs.Prelude.{slice_get, IfSome, Option, Some}
use Rattle.yq_row_table.{specs.Rows.Cut, specs.Touched.TouchesOnly, specs.View.{RowsView, Slices, rows_view}}
use Rattle.yq_outline.{specs.Extents.lines_before_mark, specs.RowWalk.line_level}
use Rattle.yq_places.specs.declared.places.steps.StepSearch.{StepSearch}

-- of two lines of these levels, one right after the other, the first is a key and the other begins a collection under it
abbrev pub begins_under_level : (dashes : Bool) → ℕ → ℕ → Bool
begins_under_level dashes above level = (above % 3 == 2) && ((level % 3 == (if dashes then 0 else 2)) && nat_lt above level)

-- how deep the last line of a row is
abbrev pub end_level : Slices → ℕ
end_level s = line_level (lines_before_mark s) s

-- how deep the last line of rows is; where there are none, that of the line before them
abbrev pub last_level : ℕ → List Slices → ℕ
last_level above [] = above
last_level above (s ∷ ss) = last_level (end_level s) ss

-- none of the rows after a line begins a collection of a kind under the key of the line before it
abbrev pub NoneBegins : (dashes : Bool) → ℕ → List Slices → Type 0
NoneBegins dashes above [] = ⊤
NoneBegins dashes above (s ∷ ss) = (begins_under_level dashes above (line_level 0 s) ≡ false) × NoneBegins dashes (end_level s) ss

-- the rows of a document that a search has passed
abbrev pub searched_rows : List Slices → StepSearch → List Slices
searched_rows ss k = drop k.first (take k.row ss)

-- None of the rows that a search has passed begins a collection of the kind, and it keeps how deep the last line of theirs is.
pub record IsSearched (dashes : Bool) (ss : List Slices) (k : StepSearch) : Type 0 where
  pub none : NoneBegins dashes 0 (searched_rows ss k)
  pub above : k.above ≡ last_level 0 (searched_rows ss k)

-- the last line of a row is so deep
abbrev pub IsLastLevel : List Slices → (row level : ℕ) → Type 0
IsLastLevel ss row level = (s : Slices) → slice_get ss row ≡ Some s → level ≡ end_level s

-- a search begins where another one ended, if there is one
abbrev pub GoesOnFrom : (known : Option StepSearch) → StepSearch → Type 0
GoesOnFrom known k = (dashes : Bool) (ss : List Slices) → IfSome known (IsSearched dashes ss) → IsSearched dashes ss k

-- the row at which a search ended begins such a collection
abbrev pub BeginsThere : (dashes : Bool) → List Slices → StepSearch → Type 0
BeginsThere dashes ss k = (s : Slices) → slice_get ss k.row ≡ Some s → begins_under_level dashes k.above (line_level 0 s) ≡ true

-- a search that ended before two rows ended at such a collection
abbrev pub EndsSearch : ℕ → ℕ → (dashes : Bool) → List Slices → StepSearch → Type 0
EndsSearch upto end dashes ss k = k.row < upto → k.row < end → BeginsThere dashes ss k

-- A search went as far in each text in which the items of its cut stay that end in front of so many bytes.
abbrev pub StaysSearched : (dashes : Bool) → ℕ → Cut → StepSearch → Type 0
StaysSearched dashes front c k = (new : Cut) (back : ℕ) → TouchesOnly front back c new → IsSearched dashes (rows_view new).rows k

-- a search, if there is one, went as far in each such text of a cut with these rows
abbrev pub StaysInEach : (dashes : Bool) → ℕ → RowsView → Option StepSearch → Type 0
StaysInEach dashes front s left = (c : Cut) → s ≡ rows_view c → IfSome left (StaysSearched dashes front c)

-- what is left of a search, if there was one, stays so
abbrev pub StaysAfter : ℕ → RowsView → (known left : Option StepSearch) → Type 0
StaysAfter front s known left = (dashes : Bool) → IfSome known (IsSearched dashes s.rows) → StaysInEach dashes front s left
