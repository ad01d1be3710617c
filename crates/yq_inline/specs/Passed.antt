-- Reading (own; you may skip it): what is passed of flow collections that the text lends.
use Rattle.std.specs.Prelude.{◌≡◌, ℕ, ◌<◌, ◌≤◌, Bool, true, false, List, ◌∷◌, Some}
use Rattle.yq_core.{specs.Borrowed.{borrows_items, borrows_node, borrows_text}, specs.FitKeys.{is_fit, has_fit_keys, each_has_fit_keys}}
use Rattle.yq_core.specs.Inline.{depth_limit}
use Rattle.yq_core.specs.Nodes.{opening_bracket, FlowNode, coll, Items, node_text, flow_items_text, IsFlowNode, AreFlowItems, is_empty_node}
use Rattle.yq_core.{specs.Keys.{each_has_unique_keys, has_unique_keys, keys_of}, specs.PlacedReading.split_key}
use Rattle.yq_core.{specs.Scalars.scalar_content, specs.Trees.{tree_of, items_tree}}

-- A node that the text lends is in front, with at most d collections nested; its keys are fit, and no mapping has one twice (own).
pub record IsPassedNode (d : ℕ) (t rest : List ℕ) : Type 0 where
  pub node : FlowNode
  pub is_located : t ≡ node_text node rest
  pub valid : IsFlowNode true (Some 0) d node rest
  pub borrowed : borrows_node node ≡ true
  pub unique : has_unique_keys (tree_of node) ≡ true
  pub fit : has_fit_keys node ≡ true

-- The same of one that is something (own).
pub record IsPassedContent (d : ℕ) (t rest : List ℕ) : Type 0 where
  pub passed : IsPassedNode d t rest
  pub some : is_empty_node passed.node ≡ false

-- The same of the value of an entry, or of an item (own).
abbrev pub IsPassedPart : Bool → ℕ → List ℕ → List ℕ → Type 0
IsPassedPart true d t rest = IsPassedNode d t rest
IsPassedPart false d t rest = IsPassedContent d t rest

-- The same of a collection by its closing bracket, after the opening one (own).
pub record IsPassedCollection (k d : ℕ) (t rest : List ℕ) : Type 0 where
  pub passed : IsPassedNode d (opening_bracket k ∷ t) rest
  pub gap : List ℕ
  pub items : Items
  pub is : passed.node ≡ coll k gap items

-- The same of items or entries with these keys, and of their closing bracket (own).
pub record ArePassedParts (d k : ℕ) (keys : List (List ℕ)) (t rest : List ℕ) : Type 0 where
  pub items : Items
  pub are_there : t ≡ flow_items_text k items rest
  pub valid : AreFlowItems d k items rest
  pub borrowed : borrows_items items ≡ true
  pub unique : each_has_unique_keys (items_tree items) ≡ true
  pub fit : each_has_fit_keys items ≡ true
  pub keys_are : keys_of (items_tree items) ≡ keys

-- A fit key that the text lends is in front; after its `:` and a gap is that rest (own).
pub record IsPassedKey (content t rest : List ℕ) : Type 0 where
  pub key : List ℕ
  pub read : split_key t ≡ Some (key, rest)
  pub borrowed : borrows_text key ≡ true
  pub fit : is_fit key ≡ true
  pub means : content ≡ scalar_content key

-- A collection that the text lends is in front (own).
pub record IsPassedHead (d : ℕ) (t rest : List ℕ) : Type 0 where
  pub close : ℕ
  pub after : List ℕ
  pub is_located : t ≡ opening_bracket close ∷ after
  pub collection : IsPassedCollection close d after rest

-- such a collection is in front, where its depth isn't 0 (own)
abbrev pub MayBePassed : ℕ → List ℕ → List ℕ → Type 0
MayBePassed d t rest = 0 < d → (d ≤ depth_limit) × IsPassedHead d t rest
