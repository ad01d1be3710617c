-- Items and entries of a flow collection: one is replaced, or comes after the last one (own).
use Rattle.std.specs.Prelude.{◌≡◌, ◌==◌, ◌≤◌, ◌++◌, ◌∷◌, [], Some, true}
use Rattle.yq_core.{specs.Collections.{CollAt, IsCollAt, item_in, room_in}, specs.Entries.EntryPieces, specs.Keys.depth}
use Rattle.yq_core.{specs.Nodes.{FlowNode, Key, scalar}, specs.Paths.{Step, append_child, change_child, changed_at, within}}
use Rattle.yq_core.{specs.Scalar.ScalarText, specs.Tree.{Label, Node}, specs.Writable.can_write, specs.Written.{IsOneLine, written_scalar}}
use Rattle.yq_core.{specs.declared.style.Place.Place, specs.declared.style.Style.Style}
use Rattle.yq_flow_edits.specs.FlowEdits.{FitsItem, FitsNode, IsFlowEdited, appending, after_appended, replacing}
use Rattle.yq_flow_edits.specs.Valued.{IsLabel, IsValid, IsValueTree}

-- an item or entry of a flow collection, and the step that leads to it (own)
pub record ItemAt : Type 0 where
  pub coll : CollAt
  pub step : Step
  pub item : EntryPieces

-- There is such a collection, and the step leads to that item or entry of it (own).
pub record IsItemAt (x : ItemAt) : Type 0 where
  pub coll : IsCollAt x.coll
  pub found : item_in x.step x.coll ≡ Some x.item

-- a node may be in the place of the item's content (own)
abbrev pub FitsContent : FlowNode → ItemAt → Type 0
FitsContent m x = FitsNode (room_in x.coll) m x.item.rest

-- A value may be in an item of the collection: so many collections as it nests may be nested there (own).
pub record FitsValue (v : Node) (x : CollAt) : Type 0 where
  pub tree : IsValueTree v
  pub room : depth v ≤ room_in x

-- A style can write a valid scalar at a place, on one line (YAML 1.2.2, section 7.3; own).
pub record IsWrittenOnLine (style : Style) (place : Place) (s : ScalarText) : Type 0 where
  pub valid : IsValid s
  pub line : IsOneLine style
  pub writable : can_write s style place ≡ true

-- the node that is written for a scalar in a style on one line (own)
abbrev pub styled_node : Style → ScalarText → FlowNode
styled_node style s = scalar (written_scalar style s.text)

-- With a node in the place of the item's content, the collection is edited, and its node's tree changes so (own).
abbrev pub IsReplaced : ItemAt → FlowNode → (Node → Node) → Type 0
IsReplaced x m changed = IsFlowEdited x.coll (replacing x.step x.item m x.coll.coll) changed

-- a tree whose item at the step changes so, among those of its collection (own)
abbrev pub child_changed : ItemAt → (Node → Node) → Node → Node
child_changed x f = changed_at x.coll.steps (within (change_child x.step f))

-- a tree whose item at the steps of the collection and that one changes so (own)
abbrev pub item_changed : ItemAt → (Node → Node) → Node → Node
item_changed x f = changed_at (x.coll.steps ++ (x.step ∷ [])) f

-- an item or entry may come after the last one (own)
abbrev pub FitsAfterLast : Key → FlowNode → CollAt → Type 0
FitsAfterLast key m x = FitsItem (room_in x) x.coll.close key m (after_appended x.coll)

-- a label may be one of the collection's, which are keys or none (own)
abbrev pub IsLabelIn : CollAt → Label → Type 0
IsLabelIn x label = IsLabel (x.coll.close == 125) label

-- With an item or entry after the last one, the collection is edited, and its tree has one more with that label and node (own).
abbrev pub IsAppended : CollAt → Key → FlowNode → Label → Node → Type 0
IsAppended x key m label v = IsFlowEdited x (appending key m x.coll) (changed_at x.steps (within (append_child label v)))
