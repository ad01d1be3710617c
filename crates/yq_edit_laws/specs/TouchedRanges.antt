-- Whether each row and end of a part that an operation writes is touched by a range of what it exchanges (own).
use Rattle.std.specs.Prelude.{◌≡◌, ◌⊎◌, ⊤, ℕ, ◌+◌, ◌≤◌, Bool, true, false, List, [], ◌∷◌, ◌++◌, length, Some, if◌then◌else◌}
use Rattle.yq_text.specs.Limit.{text_limit}
use Rattle.yq_text.specs.Script.{Extent, Segment, are_kept, extents, from_first, keep, kept_back, kept_front, new_text, put}
use Rattle.yq_text.specs.Script.{swapped_segments}
use Rattle.yq_core.specs.Text.{is_empty, is_feed}
use Rattle.yq_row_table.{specs.Items.{Item, items_of_cut, items_text}, specs.Rows.{Cut, cut_text}}
use Rattle.yq_row_table.specs.Touched.{TouchesOnly, before_offset, item_text}
use Rattle.yq_documents.specs.Reading.{documents, read_at}
use Rattle.yq_semantics.{specs.Fits.Fits, specs.Operations.Operation, specs.Rooms.room_of}
use Rattle.yq_edit_rules.{specs.Edits.op_edits, specs.Operands.HasOperand}

-- ---- touched items

-- the ranges of what segments put, in the text that they make (own)
abbrev pub put_ranges : List Segment → List Extent
put_ranges ss = extents 0 (swapped_segments ss)

-- one of these ranges touches what is between two offsets: it lies in it, or at its edge (own)
abbrev pub IsTouched : (from to : ℕ) → List Extent → Type 0
IsTouched from to [] = ⊥
IsTouched from to (e ∷ es) = ((e.from ≤ to) × (from ≤ e.to)) ⊎ IsTouched from to es

-- each of these items, of which the first one begins at an offset, is touched by one of these ranges (own)
abbrev pub AreTouched : (from : ℕ) → List Item → List Extent → Type 0
AreTouched from [] es = ⊤
AreTouched from (i ∷ is) es = IsTouched from (from + length (item_text i)) es × AreTouched (from + length (item_text i)) is es

-- each item that is written, after those in front of an offset, is touched by a range of what segments put (own)
abbrev pub PutAreTouched : (ss : List Segment) (front back : ℕ) (c new : Cut) → TouchesOnly front back c new → Type 0
PutAreTouched ss front back c new t = AreTouched (length (items_text (before_offset front (items_of_cut c)) [])) t.written (put_ranges ss)

-- ---- what segments keep between two that they exchange

-- whether no break is in a text but at its end: it is a line, or a part of one (YAML 1.2.2, 5.4)
unfoldable pub is_one_line : List ℕ → Bool
is_one_line [] = true
is_one_line (b ∷ t) = if is_feed b then is_empty t else is_one_line t

-- what is kept between two exchanged segments is a part of one line; these bytes are kept right in front of the segments (own)
abbrev pub AreInLines : (kept : List ℕ) → List Segment → Type 0
AreInLines kept [] = ⊤
AreInLines kept (keep t ∷ ss) = AreInLines (kept ++ t) ss
AreInLines kept (put o w ∷ ss) = (is_one_line kept ≡ true) × AreInLines [] ss

-- All that segments put, with what they keep between that, is in one item of a cut (own).
pub record LiesInOne (ss : List Segment) (new : Cut) : Type 0 where
  pub front : List Item
  pub own : Item
  pub back : List Item
  pub items_are : items_of_cut new ≡ front ++ (own ∷ back)
  pub begins : length (items_text front []) ≤ length (kept_front ss)
  pub ends : length (items_text back []) ≤ length (kept_back ss)

-- what segments put is near: they keep no more than a part of one line between two that they exchange, or all is in one item (own)
abbrev pub IsLocalEdit : List Segment → Type 0
IsLocalEdit ss = AreInLines [] (from_first ss) ⊎ ((new : Cut) → read_at (new_text ss) ≡ Some new → LiesInOne ss new)

-- ---- laws

-- Where what segments put is near, each item that they write is touched.
abbrev pub NearAreTouched : Type 0
NearAreTouched =
    (ss : List Segment) (c new : Cut) → IsLocalEdit ss → are_kept ss ≡ false → read_at (new_text ss) ≡ Some new →
    (front back : ℕ) → front ≡ length (kept_front ss) → back ≡ length (kept_back ss) → (t : TouchesOnly front back c new) →
    PutAreTouched ss front back c new t

-- What each operation puts is near.
abbrev pub EditsAreNear : Type 0
EditsAreNear =
    (op : Operation) (c : Cut) (ss : List Segment) → read_at (cut_text c) ≡ Some c → op_edits op c ≡ Some ss →
    HasOperand op → Fits (room_of (cut_text c)) op (documents c) → length (new_text ss) ≤ text_limit → IsLocalEdit ss
