-- Nothing is known of comments in heads.
use Rattle.std.proofs.Common.{◌≡◌, ℕ, Bool, cond, List, [], ◌∷◌, Option, Some, None, option_and_then, refl, rules}
use Rattle.yq_core.specs.Tree.{Label, Node, alias, scalar, list, map, Children, none, child, children_of}
use Rattle.yq_core.{specs.Paths.{Step, is_here, further}, specs.Nodes.{Items, item}}
use Rattle.yq_core.specs.Trees.{tree_of, items_tree, tree_collection, with_name, node_head}
use Rattle.yq_row_table.specs.Rows.{Content}
use Rattle.yq_outline.{specs.Labelled.{Labelled, labelled_at, labelled_from}, specs.Lines.head_of, specs.Outline.anchored}
use Rattle.yq_outline.{proofs.LabelPaths.reach, proofs.Values.If}
use Rattle.yq_core.specs.Nodes as inline

-- a label without comments
abbrev pub HasNone : Label → Type 0
HasNone l = (l.head_comment ≡ []) × (l.line_comment ≡ None)

abbrev mutual
  -- no comments are known of what is in a node
  pub Uncommented : Node → Type 0
  Uncommented (alias n) = Unit {0}
  Uncommented (scalar a k t) = Unit {0}
  Uncommented (list a cs) = AreUncommented cs
  Uncommented (map a cs) = AreUncommented cs

  pub AreUncommented : Children → Type 0
  AreUncommented none = Unit {0}
  AreUncommented (child l n cs) = HasNone l × Uncommented n × AreUncommented cs

uncommented_collection : (k : ℕ) (cs : Children) → AreUncommented cs → Uncommented (tree_collection k cs)
uncommented_collection k cs h = search rules

uncommented_named : (a : List ℕ) (n : Node) → Uncommented n → Uncommented (with_name a n)
uncommented_named a n h1 = search rules

mutual
  unfolding tree_of items_tree

  uncommented_tree : (n : inline.FlowNode) → Uncommented (tree_of n)
  uncommented_tree inline.empty = tt
  uncommented_tree (inline.alias n) = tt
  uncommented_tree (inline.scalar p) = tt
  uncommented_tree (inline.coll k g is) = uncommented_collection k (items_tree is) (uncommented_items is)
  uncommented_tree (inline.anchored n g node) = uncommented_named n (tree_of node) (uncommented_tree node)

  uncommented_items : (is : Items) → AreUncommented (items_tree is)
  uncommented_items inline.none = tt
  uncommented_items (item key n sep is) = ((refl, refl), uncommented_tree n, uncommented_items is)

uncommented_head : (n : inline.FlowNode) → If (node_head n) Uncommented
uncommented_head inline.empty = tt
uncommented_head (inline.alias n) = uncommented_tree (inline.alias n)
uncommented_head (inline.scalar p) = uncommented_tree (inline.scalar p)
uncommented_head (inline.coll k g is) = uncommented_tree (inline.coll k g is)
uncommented_head (inline.anchored n g node) = uncommented_head node

pub uncommented_content : (c : Content) → If (head_of c) Uncommented
uncommented_content c = search (rules, uncommented_head)

-- where steps lead in such a node
uncommented_children : (n : Node) → Uncommented n → AreUncommented (children_of n)
uncommented_children n h1 = search rules

abbrev IsUncommented : Labelled → Type 0
IsUncommented x = HasNone x.0 × Uncommented x.1

uncommented_at : (s : Step) (cs : Children) → AreUncommented cs → If (labelled_at s cs) IsUncommented
uncommented_at s none h = tt
uncommented_at s (child l n cs) h = go (is_here s l) (labelled_at (further s) cs) (uncommented_at (further s) cs h.2)
  where
    go : (b : Bool) (r : Option Labelled) → If r IsUncommented → If (cond b (Some (l, n)) r) IsUncommented
    go b r h1 = search rules

pub uncommented_from : (ss : List Step) (x : Labelled) → IsUncommented x → If (labelled_from ss x) (λ y. HasNone y.0)
uncommented_from [] x h = h.0
uncommented_from (s ∷ ss) x h = go (labelled_at s (children_of x.1)) (uncommented_at s (children_of x.1) (uncommented_children x.1 h.1)) (λ y k. uncommented_from ss y k)
  where
    go : (r : Option Labelled) → If r IsUncommented → ((y : Labelled) → IsUncommented y → If (labelled_from ss y) (λ y. HasNone y.0)) → If (option_and_then (labelled_from ss) r) (λ y. HasNone y.0)
    go r h1 h2 = search rules

pub uncommented_reach : (a : Option (List ℕ)) (s : Step) (ss : List Step) (n : Node) → Uncommented n → If (reach s ss (anchored a n)) (λ y. HasNone y.0)
uncommented_reach a s ss n h =
    let go : (r : Option Labelled) → If r IsUncommented → If (option_and_then (labelled_from ss) r) (λ y. HasNone y.0) =
    λ r h1. search (rules, uncommented_from) in
    go (labelled_at s (children_of (anchored a n))) (uncommented_at s (children_of (anchored a n)) (uncommented_children (anchored a n) (search rules)))
