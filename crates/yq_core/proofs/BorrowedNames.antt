-- No anchor and no alias is in a node that a text lends.
use Rattle.std.proofs.Common.{◌≡◌, ℕ, Bool, true, false, ◌&&◌, cond, eqb, List, [], ◌++◌, None, refl, sym, ap, ◌∙◌, subst}
use Rattle.std.proofs.lemmas.Bool.{false≢true, and_parts}
use Rattle.yq_core.{specs.Anchors.{names_of, names_in}, specs.Tree.Children}
use Rattle.yq_core.specs.Nodes.{FlowNode, empty, alias, scalar, coll, anchored, Items, none, item}
use Rattle.yq_core.specs.Borrowed.{borrows_key, borrows_node, borrows_items, is_borrowed, leading_node}
use Rattle.yq_core.{specs.Trees.{placed_tree, tree_of, items_tree, tree_collection}, proofs.BorrowedLaws.{borrowed_node, front_located}}
use Rattle.yq_core.proofs.TreeLaws.{node_tree}
use Rattle.yq_core.specs.Tree as tree

collection_names : (k : ℕ) (cs : Children) → names_of (tree_collection k cs) ≡ names_in cs
collection_names k cs = go (eqb k 125) where
  go : (b : Bool) → names_of (cond b (tree.map None cs) (tree.list None cs)) ≡ names_in cs
  go true = refl
  go false = refl

mutual
  unfolding tree_of items_tree

  no_names : (n : FlowNode) → borrows_node n ≡ true → names_of (tree_of n) ≡ []
  no_names empty h = refl
  no_names (alias a) h = absurd (false≢true h)
  no_names (scalar p) h = refl
  no_names (coll k g is) h = collection_names k (items_tree is) ∙ no_names_in is h
  no_names (anchored a g n) h = absurd (false≢true h)

  no_names_in : (is : Items) → borrows_items is ≡ true → names_in (items_tree is) ≡ []
  no_names_in none h = refl
  no_names_in (item key n s is) h =
      let a = and_parts (borrows_key key) (borrows_node n && borrows_items is) h in
      let b = and_parts (borrows_node n) (borrows_items is) a.1 in
      (λ i. no_names n b.0 i ++ no_names_in is b.1 i)

front_tree : (total d : ℕ) (t : List ℕ) (h : is_borrowed d t ≡ true) → placed_tree (leading_node total d t) ≡ tree_of (borrowed_node d t h).node
front_tree total d t h = let x = borrowed_node d t h in ap placed_tree (front_located total d t x.node x.rest x.is_located x.valid) ∙ node_tree total x.node x.rest

pub front_names : (total d : ℕ) (t : List ℕ) → is_borrowed d t ≡ true → names_of (placed_tree (leading_node total d t)) ≡ []
front_names total d t h = ap names_of (front_tree total d t h) ∙ no_names (borrowed_node d t h).node (borrowed_node d t h).borrowed

-- it is no alias, and has no anchor
abbrev pub IsUnnamed : tree.Node → Type 0
IsUnnamed (tree.alias a) = ⊥
IsUnnamed (tree.scalar a k t) = a ≡ None
IsUnnamed (tree.list a cs) = a ≡ None
IsUnnamed (tree.map a cs) = a ≡ None

collection_unnamed : (k : ℕ) (cs : Children) → IsUnnamed (tree_collection k cs)
collection_unnamed k cs = go (eqb k 125) where
  go : (b : Bool) → IsUnnamed (cond b (tree.map None cs) (tree.list None cs))
  go true = refl
  go false = refl

node_unnamed : (n : FlowNode) → borrows_node n ≡ true → IsUnnamed (tree_of n)
unfolding tree_of
node_unnamed empty h = refl
node_unnamed (alias a) h = absurd (false≢true h)
node_unnamed (scalar p) h = refl
node_unnamed (coll k g is) h = collection_unnamed k (items_tree is)
node_unnamed (anchored a g n) h = absurd (false≢true h)

pub front_unnamed : (total d : ℕ) (t : List ℕ) → is_borrowed d t ≡ true → IsUnnamed (placed_tree (leading_node total d t))
front_unnamed total d t h = subst IsUnnamed (sym (front_tree total d t h)) (node_unnamed (borrowed_node d t h).node (borrowed_node d t h).borrowed)
