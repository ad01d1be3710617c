-- A text and the places of its rows and of the ends of its parts that follow a change (own).
use Rattle.std.specs.Prelude.{◌≡◌, ◌==◌, ◌&&◌, Bool, false, ℕ, ◌+◌, ◌-◌, ◌≤◌, nat_le, nat_lt, List, [], ◌∷◌, ◌++◌, length, take, drop}
use Rattle.std.{specs.Prelude.if◌then◌else◌, specs.Str.IsCharBoundary}
use Rattle.yq_row_table.{specs.Grammar.IsCut, specs.Items.{Item, row_item, end_item, items_of_cut, items_text}, specs.Kept.IsPlaced}
use Rattle.yq_row_table.{specs.Meter.{begins_line, count_after, line_count}, specs.Regions.no_items, specs.Rows.{Cut, cut_text}}
use Rattle.yq_row_table.{specs.Touched.{TouchesOnly, in_back, before_offset}, specs.View.rows_view, specs.declared.places.Places.Places}
use Rattle.yq_rows.specs.declared.kept.Kept.{Kept}

-- what a text becomes where these bytes come in the place of those that aren't kept (own)
abbrev pub exchanged : Kept → List ℕ → List ℕ → List ℕ
exchanged kept t new = take kept.front t ++ (new ++ drop (length t - kept.back) t)

-- these are the places of the rows of a text and of the ends of its parts (own)
abbrev pub ArePlacesOf : List ℕ → Places → Type 0
ArePlacesOf t p = (c : Cut) → IsCut t c → IsPlaced p (rows_view c)

-- A text has a cut, and these are the places of its rows and of the ends of its parts (own).
pub record IsPlacedIn (t : List ℕ) (p : Places) : Type 0 where
  pub cut : Cut
  pub is_cut : IsCut t cut
  pub placed : IsPlaced p (rows_view cut)

-- Places of a text, how many of its bytes are kept before and after, and those that come in the place of the others: only rows and ends of parts that
-- lie neither in front of the first of these nor after the last ones are exchanged (own).
pub record Follows (t : List ℕ) (places : Places) (kept : Kept) (new : List ℕ) : Type 0 where
  pub old_cut : Cut
  pub new_cut : Cut
  pub old_is : IsCut t old_cut
  pub placed : IsPlaced places (rows_view old_cut)
  pub new_is : IsCut (exchanged kept t new) new_cut
  pub touches : TouchesOnly kept.front kept.back old_cut new_cut
  pub within : kept.front + kept.back ≤ length t
  pub front_edge : IsCharBoundary t kept.front
  pub back_edge : IsCharBoundary t (length t - kept.back)

-- whether the first of items is the end of a part before a marker, whose gap and whose marker's line are so many bytes (own)
abbrev pub is_end_of : ℕ → List Item → Bool
is_end_of n [] = false
is_end_of n (row_item r ∷ xs) = false
is_end_of n (end_item gap marker ∷ xs) = nat_lt 0 (length marker) && length (gap ++ marker) == n

-- whether a change keeps all of the end of a part with which what it touches begins: of the bytes that it keeps in front this and the line of its
-- marker are the last ones, and a line begins after them (own)
abbrev pub keeps_end : (kept : Kept) (c : Cut) (touched : List Item) → Bool
keeps_end kept c touched =
    begins_line (cut_text c) kept.front && is_end_of (kept.front - length (items_text (before_offset kept.front (items_of_cut c)) [])) touched

-- items without the first one, where that is kept (own)
abbrev pub after_end_item : Bool → List Item → List Item
after_end_item keeps xs = if keeps then drop 1 xs else xs

-- the line of the marker after an item, where that is the end of a part (own)
abbrev pub marker_of : Item → List ℕ
marker_of (row_item r) = []
marker_of (end_item gap marker) = marker

-- the line of the marker after the last of items (own)
abbrev pub marker_line : List Item → List ℕ
marker_line [] = []
marker_line (x ∷ xs) = if no_items xs then marker_of x else marker_line xs

-- how long that line is, where all of it is among so many bytes at the end of items, else 0 (own)
abbrev pub kept_marker : ℕ → List Item → ℕ
kept_marker n xs = if nat_le (length (marker_line xs)) n then length (marker_line xs) else 0

-- a text without its last bytes, where a line begins with them (own)
abbrev pub without_line : ℕ → List ℕ → List ℕ
without_line n t = if begins_line t (length t - n) then take (length t - n) t else t

-- what is read of items that come in the place of others: their text without the line of a marker which the change keeps after, where it begins a line
-- still (own)
abbrev pub text_read : (kept : ℕ) (touched written : List Item) → List ℕ
text_read kept touched written = without_line (kept_marker kept touched) (items_text written [])

-- The text that is read where rows and ends of parts are exchanged: that of those that come, without an end in front that the change keeps, and without
-- the line of a marker that it keeps after, where this begins a line still (own).
abbrev pub read_text : (kept : Kept) (c new : Cut) → TouchesOnly kept.front kept.back c new → List ℕ
read_text kept c new h =
    text_read (kept.back - length (items_text (in_back kept.back (items_of_cut c)) [])) (after_end_item (keeps_end kept c h.touched) h.touched)
    (after_end_item (keeps_end kept c h.touched) h.written)

-- a count that rose by the lines that are read where a change exchanges rows and ends of parts (own)
abbrev pub CountsWritten : (t new : List ℕ) → Kept → (before after : ℕ) → Type 0
CountsWritten t new kept before after =
    (c d : Cut) → IsCut t c → IsCut new d → (h : TouchesOnly kept.front kept.back c d) → after ≡ count_after (line_count (read_text kept c d h)) before
