-- The tree of a node with its places is that of its pieces.
use Rattle.std.proofs.Common.{◌≡◌, ℕ, true, false, cond, eqb, List, None, refl, ap, ◌∙◌, rules}
use Rattle.yq_core.specs.Tree.{key_label}
use Rattle.yq_core.specs.Nodes.{Key, FlowNode, empty, alias, scalar, coll, anchored, Items, none, item, key_text, sep_text, node_text}
use Rattle.yq_core.specs.Nodes.{flow_items_text}
use Rattle.yq_core.specs.Places.{Placed, placed, sequence, mapping, Parts, holder, key_placed, locate, locate_items, anchored_node}
use Rattle.yq_core.specs.Trees.{tree_collection, with_name, key_content, tree_of, items_tree, unplaced_key, placed_tree, content_tree}
use Rattle.yq_core.specs.Trees.{parts_tree}
use Rattle.yq_core.specs.Tree as tree

holder_tree : (k : ℕ) (parts : Parts) → content_tree (holder k parts) ≡ tree_collection k (parts_tree parts)
holder_tree k parts = elim (eqb k 125) as (λ c. content_tree (cond c (mapping parts) (sequence parts)) ≡ cond c (tree.map None (parts_tree parts)) (tree.list None (parts_tree parts))) [ true ↦ refl | false ↦ refl ]

anchor_tree : (n : List ℕ) (start : ℕ) (p : Placed) → placed_tree (anchored_node n start p) ≡ with_name n (placed_tree p)
anchor_tree n start (placed a s c e what) = search rules

pub key_tree : (total : ℕ) (t : List ℕ) (key : Key) → unplaced_key (key_placed total t key) ≡ key_content key
key_tree total t key = search rules

mutual
  unfolding locate locate_items tree_of items_tree

  pub node_tree : (total : ℕ) (node : FlowNode) (rest : List ℕ) → placed_tree (locate total node rest) ≡ tree_of node
  node_tree total empty rest = refl
  node_tree total (alias n) rest = refl
  node_tree total (scalar p) rest = refl
  node_tree total (coll k g is) rest = holder_tree k (locate_items total k is rest) ∙ ap (tree_collection k) (items_are total k is rest)
  node_tree total (anchored n g node) rest = anchor_tree n _ (locate total node rest) ∙ ap (with_name n) (node_tree total node rest)

  pub items_are : (total k : ℕ) (is : Items) (rest : List ℕ) → parts_tree (locate_items total k is rest) ≡ items_tree is
  items_are total k none rest = refl
  items_are total k (item key n s is) rest = λ i. tree.child
      (key_label (key_tree total (key_text key (node_text n (sep_text s (flow_items_text k is rest)))) key i))
      (node_tree total n (sep_text s (flow_items_text k is rest)) i)
      (items_are total k is rest i)
