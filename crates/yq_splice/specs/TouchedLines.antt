-- How many lines of a new text an operation touches (own): those of its rows and of the gaps after the last rows of parts, and no line of a marker
-- but where it is written.
use Rattle.std.specs.Prelude.{ℕ, ◌+◌, ◌-◌, ◌&&◌, ◌||◌, nat_le, Bool, false, List, [], ◌∷◌, ◌++◌, length, if◌then◌else◌}
use Rattle.yq_text.specs.Script.{Extent}
use Rattle.yq_row_table.{specs.Items.{Item, row_item, end_item}, specs.Meter.{begins_line, line_count}, specs.Rows.print_row}
use Rattle.yq_row_table.specs.Touched.{item_text}
use Rattle.yq_rows.specs.declared.kept.Kept.{Kept}

-- whether one of these ranges touches what is between two offsets: it lies in it, or at its edge (own)
abbrev pub is_touched : (from to : ℕ) → List Extent → Bool
is_touched from to [] = false
is_touched from to (e ∷ es) = (nat_le e.from to && nat_le from e.to) || is_touched from to es

-- whether a change from text t to a new one keeps the line of a marker, which goes from one offset of the new text up to another: it ends, with its break,
-- among the bytes that are kept at the beginning; or it begins among those that are kept at the end, and a line begins there in both texts (own)
abbrev pub keeps_line : (t new : List ℕ) → Kept → (from to : ℕ) → Bool
keeps_line t new kept from to =
    (nat_le to kept.front && begins_line new to)
    || (nat_le (length new) (from + kept.back) && (begins_line t (length t - (length new - from)) && begins_line new from))

-- what belongs to an item that begins at an offset of the new text: a row, or the gap of a part's end; with the line of the marker after that only where
-- the change doesn't keep this (own)
abbrev pub own_text : (t new : List ℕ) → Kept → ℕ → Item → List ℕ
own_text t new kept n (row_item r) = print_row r []
own_text t new kept n (end_item gap marker) = if keeps_line t new kept (n + length gap) (n + length (gap ++ marker)) then gap else gap ++ marker

-- how many lines of items, of which the first one begins at an offset of the new text, ranges touch: those of what belongs to each item that is touched
-- (own)
abbrev pub touched_lines : (t new : List ℕ) → Kept → List Extent → ℕ → List Item → ℕ
touched_lines t new kept es n [] = 0
touched_lines t new kept es n (i ∷ is) =
    (if is_touched n (n + length (own_text t new kept n i)) es then line_count (own_text t new kept n i) else 0)
    + touched_lines t new kept es (n + length (item_text i)) is
