-- A collection inside an inline node, and the node with another one in its place.
use Rattle.std.specs.Prelude.{◌≡◌, ℕ, ◌+◌, ◌-◌, suc, List, [], ◌∷◌, ◌++◌, Option, Some, None, option_and_then, length, ℤ, if◌then◌else◌}
use Rattle.yq_core.{specs.declared.style.Place.Place, specs.Paths.{Step, is_here, further}}
use Rattle.yq_core.{specs.Entries.{EntryPieces, item_at, path_inside}, specs.Inline.{depth_limit, IsInline}}
use Rattle.yq_core.specs.Nodes.{FlowNode, empty, alias, scalar, coll, anchored, Items, none, item, flow_items_text, opening_bracket}
use Rattle.yq_core.{specs.Trees.key_content, specs.Tree.key_label}

-- a collection by its pieces, and the rest that follows it (YAML 1.2.2, section 7.4)
pub record CollPieces : Type 0 where
  pub close : ℕ
  pub gap : List ℕ
  pub items : Items
  pub rest : List ℕ

-- how a collection with these items after that gap is written before a rest (YAML 1.2.2, section 7.4)
abbrev pub coll_text : ℕ → List ℕ → Items → List ℕ → List ℕ
coll_text k gap is rest = opening_bracket k ∷ (gap ++ flow_items_text k is rest)

-- the collection that a node before a rest is, after its anchor (own)
abbrev pub coll_in : FlowNode → List ℕ → Option CollPieces
coll_in empty rest = None
coll_in (alias n) rest = None
coll_in (scalar p) rest = None
coll_in (coll k gap is) rest = Some (record { close = k; gap = gap; items = is; rest = rest })
coll_in (anchored n gap node) rest = coll_in node rest

-- the collection to which steps lead from a node before a rest (own)
abbrev pub coll_along : List Step → FlowNode → List ℕ → Option CollPieces
coll_along [] node rest = coll_in node rest
coll_along (s ∷ ss) node rest = option_and_then (λ y. coll_along ss y.node y.rest) (path_inside s node rest)

-- the node with another gap and other items in its collection (own)
abbrev pub put_coll : List ℕ → Items → FlowNode → FlowNode
put_coll g is empty = empty
put_coll g is (alias n) = alias n
put_coll g is (scalar p) = scalar p
put_coll g is (coll k gap others) = coll k g is
put_coll g is (anchored n gap node) = anchored n gap (put_coll g is node)

-- the node with the items of its collection changed (own)
abbrev pub within_items : (Items → Items) → FlowNode → FlowNode
within_items f empty = empty
within_items f (alias n) = alias n
within_items f (scalar p) = scalar p
within_items f (coll k gap is) = coll k gap (f is)
within_items f (anchored n gap node) = anchored n gap (within_items f node)

-- the items with the node of the one at a step changed (own)
abbrev pub change_item : Step → (FlowNode → FlowNode) → Items → Items
change_item s f none = none
change_item s f (item key n sep is) = if is_here s (key_label (key_content key)) then item key (f n) sep is else item key n sep (change_item (further s) f is)

-- the node with another gap and other items in the collection to which steps lead (own)
abbrev pub collection_put : List Step → List ℕ → Items → FlowNode → FlowNode
collection_put [] g is node = put_coll g is node
collection_put (s ∷ ss) g is node = within_items (change_item s (collection_put ss g is)) node

-- A collection inside an inline node: where the node is, by its place, its parent's indentation and the collections around it; the steps that
-- lead to the collection; and its pieces (own).
pub record CollAt : Type 0 where
  pub place : Place
  pub indent : ℤ
  pub around : ℕ
  pub node : FlowNode
  pub rest : List ℕ
  pub steps : List Step
  pub coll : CollPieces

-- there is such an inline node, and the steps lead to that collection (own)
pub record IsCollAt (x : CollAt) : Type 0 where
  pub inline : IsInline x.place x.indent x.around x.node x.rest
  pub found : coll_along x.steps x.node x.rest ≡ Some x.coll

-- the item or entry of the collection to which a step leads (own)
abbrev pub item_in : Step → CollAt → Option EntryPieces
item_in s x = item_at x.coll.close s x.coll.items x.coll.rest

-- how many collections may be nested in an item or entry of the collection (own)
abbrev pub room_in : CollAt → ℕ
room_in x = depth_limit - (x.around + suc (length x.steps))
