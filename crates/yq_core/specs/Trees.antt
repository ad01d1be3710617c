-- The tree that an inline node means (YAML 1.2.2, section 3.2.1).
use Rattle.std.specs.Prelude.{ℕ, ◌==◌, List, Option, Some, None, if◌then◌else◌}
use Rattle.yq_core.{specs.declared.piece.Piece.Piece, specs.Scalar.{ScalarText, null}, specs.Tree.{Children, key_label}}
use Rattle.yq_core.specs.Nodes.{Key, bare, keyed, FlowNode, empty, alias, scalar, coll, anchored, Items, none, item}
use Rattle.yq_core.specs.Places.{Placed, placed, CoreNode, nothing, name, text, sequence, mapping, Parts, end, part}
use Rattle.yq_core.specs.Scalars.{scalar_content, scalar_of}
use Rattle.yq_core.specs.Tree as tree

-- a scalar without an anchor (YAML 1.2.2, section 3.2.1.1)
abbrev pub scalar_node : ScalarText → tree.Node
scalar_node s = tree.scalar None s.kind s.text

-- a collection by its closing bracket, without an anchor (YAML 1.2.2, section 7.4)
abbrev pub tree_collection : ℕ → Children → tree.Node
tree_collection k cs = if k == 125 then tree.map None cs else tree.list None cs

-- the node with an anchor before it in the place of its own; an alias has none (YAML 1.2.2, sections 6.9.2 and 7.1)
abbrev pub with_name : List ℕ → tree.Node → tree.Node
with_name a (tree.alias n) = tree.alias n
with_name a (tree.scalar b kind t) = tree.scalar (Some a) kind t
with_name a (tree.list b cs) = tree.list (Some a) cs
with_name a (tree.map b cs) = tree.map (Some a) cs

-- the same, if there is an anchor (YAML 1.2.2, section 6.9.2)
abbrev pub with_anchor_name : Option (List ℕ) → tree.Node → tree.Node
with_anchor_name None n = n
with_anchor_name (Some a) n = with_name a n

-- what a key means, if there is one (YAML 1.2.2, section 7.4.2)
abbrev pub key_content : Key → Option (List ℕ)
key_content bare = None
key_content (keyed p before gap) = Some (scalar_content p)

unfoldable mutual
  -- the tree of a node's pieces; a node that is nothing is null (YAML 1.2.2, sections 6.9.2, 7.1, 7.2, 7.3 and 7.4)
  pub tree_of : FlowNode → tree.Node
  tree_of empty = scalar_node null
  tree_of (alias n) = tree.alias n
  tree_of (scalar p) = scalar_node (scalar_of p)
  tree_of (coll k gap is) = tree_collection k (items_tree is)
  tree_of (anchored n gap node) = with_name n (tree_of node)

  -- the same of items or entries (YAML 1.2.2, section 7.4)
  pub items_tree : Items → Children
  items_tree none = tree.none
  items_tree (item key n sep is) = tree.child (key_label (key_content key)) (tree_of n) (items_tree is)

-- the content of a key that is with its piece, if there is one (own)
abbrev pub unplaced_key : Option (List ℕ × Piece) → Option (List ℕ)
unplaced_key None = None
unplaced_key (Some k) = Some k.0

abbrev mutual
  -- the tree of a node with places, without these (own)
  pub placed_tree : Placed → tree.Node
  placed_tree (placed a s c e f) = with_anchor_name a (content_tree f)

  -- the tree of what comes after an anchor (own)
  pub content_tree : CoreNode → tree.Node
  content_tree nothing = scalar_node null
  content_tree (name n) = tree.alias n
  content_tree (text s piece) = scalar_node s
  content_tree (sequence parts) = tree.list None (parts_tree parts)
  content_tree (mapping parts) = tree.map None (parts_tree parts)

  -- the same of items or entries (own)
  pub parts_tree : Parts → Children
  parts_tree end = tree.none
  parts_tree (part key n parts) = tree.child (key_label (unplaced_key key)) (placed_tree n) (parts_tree parts)

-- the name of the anchor before an inline node, if there is one (YAML 1.2.2, section 6.9.2)
abbrev pub node_anchor : FlowNode → Option (List ℕ)
node_anchor empty = None
node_anchor (alias n) = None
node_anchor (scalar p) = None
node_anchor (coll close gap items) = None
node_anchor (anchored n gap node) = Some n

-- what an inline node spells after its anchor, if anything is there (YAML 1.2.2, sections 3.2.1 and 7.2)
abbrev pub node_head : FlowNode → Option tree.Node
node_head empty = None
node_head (alias n) = Some (tree_of (alias n))
node_head (scalar p) = Some (tree_of (scalar p))
node_head (coll close gap items) = Some (tree_of (coll close gap items))
node_head (anchored n gap node) = node_head node
