-- What is left of a flow collection from which items or entries were taken out, from the last one back (YAML 1.2.2, 7.4; own).
use Rattle.std.specs.Prelude.{◌≡◌, ℕ, zero, suc, Bool, true, false, ◌&&◌, List, [], ◌++◌, Option, Some, None}
use Rattle.yq_core.{specs.Paths.{Step, is_here, further}, specs.PlainText.begins_marker, specs.Trees.key_content, specs.Tree.key_label}
use Rattle.yq_core.{specs.Nodes.{Key, FlowNode, Sep, Items, none, item, key_text, node_text, sep_text}, specs.Alike.fresh}
use Rattle.yq_core.{specs.Places.{Parts, end, part}, specs.Entries.{end_of, entry_start}}
use Rattle.yq_flow_edits.{specs.FlowEdits.FlowEdit, specs.FlowPlaces.past_feed, specs.Removals.{ends_marked, gap_of, removing_from}}
use Rattle.yq_core.specs.Nodes as nodes

-- ---- items

-- what comes after the first items that are left: nothing, after what comes after the last one, or other items (own)
pub data Ending : Type 0 where
  closing : Sep → Ending
  others : Key → FlowNode → Sep → Items → Ending

-- the items of an ending (own)
abbrev pub ending_items : Ending → Items
ending_items (closing s) = none
ending_items (others key n s is) = item key n s is

-- what comes after an item that so many items and an ending follow (own)
abbrev pub sep_left : ℕ → Sep → Ending → Sep
sep_left zero sep (closing s) = s
sep_left zero sep (others key n s is) = sep
sep_left (suc j) sep e = sep

-- the first items of some, and an ending after them (own)
abbrev pub left_items : ℕ → Items → Ending → Items
left_items zero is e = ending_items e
left_items (suc j) none e = none
left_items (suc j) (item key n sep is) e = item key n (sep_left j sep e) (left_items j is e)

-- those of them that come after the item of an index (own)
abbrev pub items_after : (i j : ℕ) → Items → Ending → Items
items_after i zero is e = none
items_after i (suc j) none e = none
items_after zero (suc j) (item key n sep is) e = left_items j is e
items_after (suc i) (suc j) (item key n sep is) e = items_after i j is e

-- a step leads to the item or entry of an index, and to none before it (own)
abbrev pub LeadsToIndex : Step → ℕ → Items → Type 0
LeadsToIndex s i none = ⊥
LeadsToIndex s zero (item key n sep is) = is_here s (key_label (key_content key)) ≡ true
LeadsToIndex s (suc i) (item key n sep is) = (is_here s (key_label (key_content key)) ≡ false) × LeadsToIndex (further s) i is

-- the gap before the item of an index, among items after a gap (own)
abbrev pub gap_at : ℕ → List ℕ → Items → List ℕ
gap_at zero g is = g
gap_at (suc i) g none = g
gap_at (suc i) g (item key n sep is) = gap_at i (gap_of sep) is

-- the text of the first items, with what comes after each (own)
abbrev pub front_text : ℕ → Items → List ℕ
front_text zero is = []
front_text (suc i) none = []
front_text (suc i) (item key n sep is) = key_text key (node_text n (sep_text sep [])) ++ front_text i is

-- the text of the item of an index (own)
abbrev pub text_of_item : ℕ → Items → List ℕ
text_of_item i none = []
text_of_item zero (item key n sep is) = key_text key (node_text n [])
text_of_item (suc i) (item key n sep is) = text_of_item i is

-- the text up to the end of the item of an index (own)
abbrev pub upto_text : ℕ → Items → List ℕ
upto_text i is = front_text i is ++ text_of_item i is

-- how many items there are (own)
abbrev pub count_items : Items → ℕ
count_items none = 0
count_items (item key n sep is) = suc (count_items is)

-- An item or entry is taken out of items after a gap: with others left, from the end of one text that begins with them to that of another one, and nothing
-- is written (own).
pub record TakesOut (k : ℕ) (rest g : List ℕ) (s : Step) (left new : Items) (front upto : List ℕ) : Type 0 where
  pub edit : FlowEdit
  pub removes : removing_from k rest s g left ≡ Some edit
  pub gap : edit.gap ≡ g
  pub items : edit.items ≡ new
  pub lead : edit.lead ≡ []
  pub text : nodes.flow_items_text k left rest ≡ front ++ (edit.old ++ edit.after)
  pub old : front ++ edit.old ≡ upto
  pub left_text : nodes.flow_items_text k new rest ≡ front ++ edit.after

-- no space has to come between a gap and what comes after it (own)
abbrev pub NeedsNoSpace : List ℕ → List ℕ → Type 0
NeedsNoSpace g next = (fresh false g && begins_marker next) ≡ false

-- no comma has to stay after the item of an index (own)
abbrev pub NeedsNoComma : ℕ → List ℕ → Items → Type 0
NeedsNoComma i g is = ends_marked (fresh false (gap_at i g is)) (text_of_item i is) ≡ false

-- ---- parts with their places

-- where the part of an index begins and ends (own)
abbrev pub place_of_part : ℕ → Parts → Option (ℕ × ℕ)
place_of_part i end = None
place_of_part zero (part key n parts) = Some (entry_start (key, n), end_of n)
place_of_part (suc i) (part key n parts) = place_of_part i parts

-- how many parts there are (own)
abbrev pub count_parts : Parts → ℕ
count_parts end = 0
count_parts (part key n parts) = suc (count_parts parts)

-- what goes is from one place up to another one, before what perhaps begins with a marker, and no space has to come there (own)
abbrev pub GoesUpTo : List ℕ → (from upto : ℕ) → Bool → (start finish : ℕ) → Option Bool → Type 0
GoesUpTo t from upto marked start finish after = (start ≡ from) × (finish ≡ upto) × (after ≡ Some marked) × ((past_feed t from && marked) ≡ false)
