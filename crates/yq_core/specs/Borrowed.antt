-- Nodes of flow collections of which a text lends each key and scalar (own).
use Rattle.std.specs.Prelude.{◌≡◌, ℕ, ◌-◌, ◌==◌, Bool, true, false, ◌&&◌, not, List, [], take, drop, length, Option, Some, None}
use Rattle.std.{specs.Prelude.if◌then◌else◌, specs.List.list_any}
use Rattle.yq_core.{specs.Plain.holds_break, specs.Scalars.is_quoted, specs.Keys.{has_unique_keys, each_has_unique_keys}}
use Rattle.yq_core.specs.Nodes.{Key, bare, keyed, FlowNode, empty, alias, scalar, coll, anchored, Items, none, item, begins_with, node_text}
use Rattle.yq_core.specs.Nodes.{flow_items_text, IsFlowNode, AreFlowItems}
use Rattle.yq_core.{specs.Places.{Placed, placed, nothing, Parts, end, locate, locate_items}, specs.Reading.{all_node, all_items}}
use Rattle.yq_core.{specs.FitKeys.each_has_fit_keys, specs.Trees.{tree_of, items_tree}}

-- a backslash in double quotes, or a quote in single ones, comes after the first byte and before the last (own)
abbrev pub holds_escape : List ℕ → Bool
holds_escape t = if is_quoted t then list_any (λ b. b == (if begins_with 34 t then 92 else 39)) (take (length t - 2) (drop 1 t)) else false

-- the text lends what a key or scalar means: it is on one line, and has no escapes (own)
abbrev pub borrows_text : List ℕ → Bool
borrows_text t = not (holds_break t) && not (holds_escape t)

-- a text as it is written, without its quotes (own)
abbrev pub borrowed_text : List ℕ → List ℕ
borrowed_text t = if is_quoted t then take (length t - 2) (drop 1 t) else t

-- the text lends a key, if there is one (own)
abbrev pub borrows_key : Key → Bool
borrows_key bare = true
borrows_key (keyed p before gap) = borrows_text p

abbrev mutual
  -- the text lends each key and scalar of a node; there is no anchor and no alias in it (own)
  pub borrows_node : FlowNode → Bool
  borrows_node empty = true
  borrows_node (alias n) = false
  borrows_node (scalar p) = borrows_text p
  borrows_node (coll k g is) = borrows_items is
  borrows_node (anchored n g node) = false

  -- the same of items or entries (own)
  pub borrows_items : Items → Bool
  borrows_items none = true
  borrows_items (item key n s is) = borrows_key key && (borrows_node n && borrows_items is)

-- A node is in front of a text, in a flow collection, with at most d collections nested; the text lends it, and no mapping has a key twice (own).
pub record IsBorrowed (d : ℕ) (t : List ℕ) : Type 0 where
  pub node : FlowNode
  pub rest : List ℕ
  pub is_located : t ≡ node_text node rest
  pub valid : IsFlowNode true (Some 0) d node rest
  pub borrowed : borrows_node node ≡ true
  pub unique : has_unique_keys (tree_of node) ≡ true

-- The same of items or entries, with their closing bracket (own).
pub record AreBorrowed (d k : ℕ) (t : List ℕ) : Type 0 where
  pub items : Items
  pub rest : List ℕ
  pub are_there : t ≡ flow_items_text k items rest
  pub valid : AreFlowItems d k items rest
  pub borrowed : borrows_items items ≡ true
  pub unique : each_has_unique_keys (items_tree items) ≡ true

-- the text lends the node that is read, if one is, and no mapping in it has a key twice (own)
abbrev pub borrows_read : Option (FlowNode × List ℕ) → Bool
borrows_read None = false
borrows_read (Some x) = borrows_node x.0 && has_unique_keys (tree_of x.0)

-- whether such a node is in front (own)
unfoldable pub is_borrowed : ℕ → List ℕ → Bool
is_borrowed d t = borrows_read (all_node true (Some 0) d t)

-- the same of items or entries (own)
abbrev pub borrows_all : Option (Items × List ℕ) → Bool
borrows_all None = false
borrows_all (Some x) = borrows_items x.0 && each_has_unique_keys (items_tree x.0)

-- whether such items or entries with their closing bracket are in front (own)
unfoldable pub are_borrowed : ℕ → ℕ → List ℕ → Bool
are_borrowed d k t = borrows_all (all_items d k t)

-- A text is a flow collection with at most d collections nested, which it lends; its keys are fit, and no mapping has one twice (own).
pub record IsWholeCollection (d : ℕ) (t : List ℕ) : Type 0 where
  pub close : ℕ
  pub gap : List ℕ
  pub items : Items
  pub spelled : t ≡ node_text (coll close gap items) []
  pub valid : IsFlowNode true (Some 0) d (coll close gap items) []
  pub borrowed : borrows_items items ≡ true
  pub unique : has_unique_keys (tree_of (coll close gap items)) ≡ true
  pub fit : each_has_fit_keys items ≡ true

-- a node that is read, with its places in a text so long (own)
abbrev pub located_or_nothing : ℕ → Option (FlowNode × List ℕ) → Placed
located_or_nothing total None = placed None 0 0 0 nothing
located_or_nothing total (Some x) = locate total x.0 x.1

-- the node in front, with its places in a text so long (own)
unfoldable pub leading_node : ℕ → ℕ → List ℕ → Placed
leading_node total d t = located_or_nothing total (all_node true (Some 0) d t)

-- items or entries that are read, with their places in a text so long (own)
abbrev pub located_or_end : ℕ → ℕ → Option (Items × List ℕ) → Parts
located_or_end total k None = end
located_or_end total k (Some x) = locate_items total k x.0 x.1

-- the items or entries in front, with their places in a text so long (own)
unfoldable pub leading_items : ℕ → ℕ → ℕ → List ℕ → Parts
leading_items total d k t = located_or_end total k (all_items d k t)
