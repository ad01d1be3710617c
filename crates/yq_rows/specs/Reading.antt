-- What is read where rows and ends of parts are exchanged (own; you may skip it).
use Rattle.std.specs.Prelude.{◌≡◌, ℕ, ◌-◌, ◌<◌, ◌≤◌, ◌^◌, Bool, true, false, not, List, [], ◌++◌, length, map, take, drop, Option, Some}
use Rattle.std.{specs.Prelude.{None, if◌then◌else◌}, specs.Str.{IsCharBoundary, IsUtf8}}
use Rattle.yq_row_table.{specs.Items.{Item, items_text}, specs.Kept.{near, ends_near, placed_rows, TextsIn}, specs.Meter.begins_line}
use Rattle.yq_row_table.{specs.Regions.{IsReadAlone, ended, no_items}, specs.declared.ends.EndPlace.EndPlace}
use Rattle.yq_rows.{specs.declared.kept.Kept.Kept, specs.declared.session_reading.NewRows.NewRows, specs.declared.touched.Touched.Touched}

-- the text of what comes in the place of what a change touches: what stays of that in front, what comes, and what stays after (own)
abbrev pub region_text : List ℕ → Touched → Kept → List ℕ → List ℕ
region_text t x kept new = drop x.front.bytes (take kept.front t) ++ (new ++ drop (length t - kept.back) (take x.old.bytes t))

-- A text may be cut where what is touched begins and ends, and where a change begins and ends (own).
pub record AreEdges (t : List ℕ) (x : Touched) (kept : Kept) : Type 0 where
  pub front : IsCharBoundary t kept.front
  pub begin : IsCharBoundary (take kept.front t) x.front.bytes
  pub back : IsCharBoundary (take x.old.bytes t) (length t - kept.back)
  pub end : IsCharBoundary t x.old.bytes

-- the end of a part, if the line of its marker begins a line at the end of a text (own)
abbrev pub unread_end : List ℕ → Option EndPlace → Option EndPlace
unread_end t None = None
unread_end t (Some e) = if begins_line t (length t - e.marker) then Some e else None

-- a text without the line of that marker (own)
abbrev pub without_marker : List ℕ → Option EndPlace → List ℕ
without_marker t None = t
without_marker t (Some e) = take (length t - e.marker) t

-- the text that is read of a region (own)
abbrev pub read_part : List ℕ → Option EndPlace → List ℕ
read_part t marked = without_marker t (unread_end t marked)

-- the end of a part, with a marker as long as that of another one (own)
abbrev pub marked_as : EndPlace → EndPlace → EndPlace
marked_as e x = record x { marker = e.marker }

-- the ends of parts that were read, the last one with the marker that wasn't read, or without that one, where it is the empty one before others (own)
abbrev pub settled_ends : List EndPlace → Option EndPlace → Bool → List EndPlace
settled_ends es (Some e) more = take (length es - 1) es ++ map (marked_as e) (drop (length es - 1) es)
settled_ends es None true = take (length es - 1) es
settled_ends es None false = es

-- Items end with the end of a part, with a marker as long as this one's, and read alone without its line (own).
pub record IsUnread (xs : List Item) (e : EndPlace) : Type 0 where
  pub front : List Item
  pub gap : List ℕ
  pub marker : List ℕ
  pub items : xs ≡ ended front gap marker
  pub long : e.marker ≡ length marker
  pub text : IsUtf8 marker
  pub read : IsReadAlone (ended front gap []) []

-- A region has the text of items that are read alone, before others (own).
pub record IsRead (region : List ℕ) (x : Touched) : Type 0 where
  pub written : List Item
  pub after : List Item
  pub text : region ≡ items_text written []
  pub read : IsReadAlone written after
  pub more : x.more ≡ not (no_items after)
  pub unread : (e : EndPlace) → unread_end region x.marked ≡ Some e → IsUnread written e
  pub small : length region < 2 ^ 32

-- These are the places of the items whose text a region is (own).
pub record ArePlacesRead (written : List Item) (come : NewRows) : Type 0 where
  pub rows : placed_rows come.read come.places ≡ near 0 written
  pub ends : come.places.ends ≡ ends_near 0 0 written
  pub long : come.len ≡ length (items_text written [])
  pub short : come.read ≤ come.len
  pub texts : TextsIn written

-- the places that were read are those (own)
abbrev pub Comes : List ℕ → Touched → NewRows → Type 0
Comes region x come = (h : IsRead region x) → ArePlacesRead h.written come
