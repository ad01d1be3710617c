-- What a change touches and what is written in its place, and rows and ends of parts that are replaced by others (own; you may skip it).
use Rattle.std.specs.Prelude.{◌≡◌, ℕ, ◌+◌, ◌-◌, ◌<◌, ◌≤◌, ◌^◌, List, ◌++◌, drop, length, map, reverse, take}
use Rattle.yq_row_table.{specs.Grammar.IsCut, specs.Items.{Item, items_of_cut}, specs.Kept.{near, far, moved_end, ArePlaced}}
use Rattle.yq_row_table.{specs.Rows.Cut, specs.Touched.TouchesOnly, specs.declared.ends.EndPlace.EndPlace}
use Rattle.yq_row_table.specs.declared.places.Places.{Places}
use Rattle.yq_rows.{specs.Following.{exchanged, read_text}, specs.Reading.{ArePlacesRead, IsRead, AreEdges, read_part, region_text}}
use Rattle.yq_rows.{specs.Sides.{AreAt, origin, side_of, text_length}, specs.declared.kept.Kept.Kept}
use Rattle.yq_rows.{specs.declared.session_reading.NewRows.NewRows, specs.declared.sides.Side.Side, specs.declared.touched.Touched.Touched}

-- the end of a part that came after one place, after another (own)
abbrev pub moved_from : Side → Side → EndPlace → EndPlace
moved_from from to e = moved_end ((e.rows - from.rows) + to.rows) ((e.start - from.bytes) + to.bytes) e

-- it comes after the one place, and has a place after the other (own)
pub record IsMovable (from to : Side) (e : EndPlace) : Type 0 where
  pub rows : from.rows ≤ e.rows
  pub bytes : from.bytes ≤ e.start
  pub new_rows : (e.rows - from.rows) + to.rows < 2 ^ 64
  pub new_bytes : (e.start - from.bytes) + to.bytes < 2 ^ 32

-- Rows and ends of parts of items between others are replaced by those of items that were read (own).
pub record GivesWay (p : Places) (x : Touched) (come : NewRows) : Type 0 where
  pub before : List Item
  pub touched : List Item
  pub written : List Item
  pub after : List Item
  pub placed : AreAt p (before ++ (touched ++ after))
  pub are_read : ArePlacesRead written come
  pub front_is : x.front ≡ side_of before
  pub old_is : x.old ≡ side_of (before ++ touched)
  pub front_rows : take x.front.rows p.front.items ≡ near 0 before
  pub back_rows : reverse (take (length (near 0 after)) p.after.items) ≡ far after
  pub small : text_length (before ++ (written ++ after)) < 2 ^ 32

-- The items that a change of a text touches, between the others, and the region that is read in their place (own).
pub record TextChange (t new : List ℕ) (kept : Kept) (p : Places) (x : Touched) : Type 0 where
  pub before : List Item
  pub touched : List Item
  pub read : IsRead (region_text t x kept new) x
  pub placed : AreAt p (before ++ (touched ++ read.after))
  pub front_is : x.front ≡ side_of before
  pub old_is : x.old ≡ side_of (before ++ touched)
  pub front_rows : take x.front.rows p.front.items ≡ near 0 before
  pub back_rows : reverse (take (length (near 0 read.after)) p.after.items) ≡ far read.after
  pub edges : AreEdges t x kept
  pub old_items : (c : Cut) → IsCut t c → before ++ (touched ++ read.after) ≡ items_of_cut c
  pub items : (d : Cut) → IsCut (exchanged kept t new) d → before ++ (read.written ++ read.after) ≡ items_of_cut d
  pub small : text_length (before ++ (read.written ++ read.after)) < 2 ^ 32
  pub once : (c d : Cut) → IsCut t c → IsCut (exchanged kept t new) d → (h : TouchesOnly kept.front kept.back c d) →
      read_text kept c d h ≡ read_part (region_text t x kept new) x.marked

-- both keep rows and ends of parts at the same places (own)
abbrev pub SamePlaces : Places → Places → Type 0
SamePlaces old new = (new.front.items ≡ old.front.items) × (new.after.items ≡ old.after.items) × (new.ends ≡ old.ends) × (new.split ≡ old.split)

-- the ends of parts in front of those that are replaced, those that were read, and those after, each where it then is (own)
abbrev pub joined_ends : Side → Side → Side → List EndPlace → List EndPlace → List EndPlace
joined_ends front old new ends found = take front.ends ends ++ (map (moved_from origin front) found ++ map (moved_from old new) (drop old.ends ends))

-- rows and ends of parts are kept where they are once those that were read have the place of the touched ones (own)
abbrev pub RowsExchanged : Places → Touched → NewRows → Places → Type 0
RowsExchanged p x come new = (h : GivesWay p x come) → ArePlaced new (h.before ++ h.written) h.after
