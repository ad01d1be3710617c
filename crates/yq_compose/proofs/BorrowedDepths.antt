-- How deep collections are nested in a node that the text lends.
use Rattle.std.proofs.Common.{◌≡◌, ℕ, zero, suc, ◌≤◌, Bool, true, false, cond, eqb, leb, List, Option, Some, None, refl, sym, ap, ◌∙◌}
use Rattle.std.{proofs.Common.arith, proofs.lemmas.Bool.{and_from, le-leb}, proofs.lemmas.Option.same_Some}
use Rattle.yq_core.{specs.Answers.{◌>>=◌, ReadFails, ReadError}, specs.Borrowed.{IsBorrowed, is_borrowed, located_or_nothing, leading_node}}
use Rattle.yq_core.{specs.Keys.{deepest, depth, has_unique_keys}, specs.Places.{Placed, locate}, specs.PlacedReading.placed_node}
use Rattle.yq_core.specs.Nodes.{FlowNode, empty, alias, scalar, coll, anchored, Items, none, item, IsFlowNode, AreFlowItems, sep_text}
use Rattle.yq_core.{specs.Nodes.flow_items_text, specs.Reading.all_node}
use Rattle.yq_core.{specs.Trees.{items_tree, placed_tree, tree_collection, tree_of, with_name}, proofs.Bools.bind_some}
use Rattle.yq_core.{proofs.BorrowedLaws.{borrowed_node, front_located}, proofs.NodeLaws.all_again, proofs.TreeLaws.node_tree}
use Rattle.yq_outline.specs.Sound.{head_is_sound}
use Rattle.yq_compose.specs.Deciding.{Denies}
use Rattle.yq_core.specs.Tree as trees
use Rattle.yq_failure.specs.declared.failure.Failure.TheVariants as errors

named_depth : (a : List ℕ) (n : trees.Node) → depth (with_name a n) ≡ depth n
named_depth a (trees.alias n) = refl
named_depth a (trees.scalar b kind t) = refl
named_depth a (trees.list b cs) = refl
named_depth a (trees.map b cs) = refl

collection_depth : (k : ℕ) (cs : trees.Children) → depth (tree_collection k cs) ≡ suc (deepest cs)
collection_depth k cs = go (eqb k 125) where
  go : (b : Bool) → depth (cond b (trees.map None cs) (trees.list None cs)) ≡ suc (deepest cs)
  go true = refl
  go false = refl

mutual
  unfolding IsFlowNode AreFlowItems tree_of items_tree

  pub node_depth : (node : FlowNode) (flow : Bool) (spaces : Option ℕ) (d : ℕ) (rest : List ℕ) → IsFlowNode flow spaces d node rest → depth (tree_of node) ≤ d
  node_depth empty flow spaces d rest h = omega arith
  node_depth (alias a) flow spaces d rest h = omega arith
  node_depth (scalar p) flow spaces d rest h = omega arith
  node_depth (coll k g is) flow spaces zero rest h = absurd h.2
  node_depth (coll k g is) flow spaces (suc d) rest h = omega (arith, collection_depth k (items_tree is), items_depth is k d rest h.2)
  node_depth (anchored a g node) flow spaces d rest h = omega (arith, named_depth a (tree_of node), node_depth node flow spaces d rest h.4)

  pub items_depth : (is : Items) (k d : ℕ) (rest : List ℕ) → AreFlowItems d k is rest → deepest (items_tree is) ≤ d
  items_depth none k d rest h = omega arith
  items_depth (item key node s is) k d rest h = omega (arith, node_depth node true (Some 0) d (sep_text s (flow_items_text k is rest)) h.2, items_depth is k d rest h.4)

leading_tree : (total d : ℕ) (t : List ℕ) (x : FlowNode × List ℕ) → all_node true (Some 0) d t ≡ Some x → placed_tree (leading_node total d t) ≡ tree_of x.0
unfolding leading_node
leading_tree total d t x read = ap (λ o. placed_tree (located_or_nothing total o)) read ∙ node_tree total x.0 x.1

-- no more are nested than it says
pub depth_kept : (total d k : ℕ) (t : List ℕ) → is_borrowed d t ≡ true → d ≤ k → head_is_sound k (Some (placed_tree (leading_node total d t))) ≡ true
depth_kept total d k t h le =
    let is = borrowed_node d t h in
    let tree : placed_tree (leading_node total d t) ≡ tree_of is.node = ap placed_tree (front_located total d t is.node is.rest is.is_located is.valid) ∙ node_tree total is.node is.rest in
    let low : depth (tree_of is.node) ≤ k = omega (arith, le, node_depth is.node true (Some 0) d is.rest is.valid) in
    ap (λ n. head_is_sound k (Some n)) tree ∙ and_from (leb (depth (tree_of is.node)) k) (has_unique_keys (tree_of is.node)) (le-leb (depth (tree_of is.node)) k low) is.unique

-- it is read again
pub read_leading : (total other d k : ℕ) (t r : List ℕ) (p : Placed) → placed_node true (Some 0) other d t ≡ Some (p, r) → head_is_sound k (Some (placed_tree p)) ≡ head_is_sound k (Some (placed_tree (leading_node total d t)))
read_leading total other d k t r p read =
    let x = bind_some (all_node true (Some 0) d t) read in
    let own : locate other x.0.0 x.0.1 ≡ p = ap (λ (y : Placed × List ℕ). y.0) (same_Some _ _ x.2) in
    ap (λ n. head_is_sound k (Some n)) (ap placed_tree (sym own) ∙ (node_tree other x.0.0 x.0.1 ∙ sym (leading_tree total d t x.0 x.1)))

read_there : (other d : ℕ) (t : List ℕ) (is : IsBorrowed d t) → placed_node true (Some 0) other d t ≡ Some (locate other is.node is.rest, is.rest)
read_there other d t is = ap (placed_node true (Some 0) other d) is.is_located ∙ ap (λ o. o >>= λ x. Some (locate other x.0 x.1, x.1)) (all_again true (Some 0) d is.node is.rest is.valid)

pub never_unread : (e : ReadError) (other d : ℕ) (t : List ℕ) (b : Bool) → is_borrowed d t ≡ true → ReadFails e (placed_node true (Some 0) other d t) → Denies e b
never_unread errors.Memory other d t b h f = tt
never_unread (errors.Fault k) other d t b h f =
    let is = borrowed_node d t h in
    absurd (let no : Some (locate other is.node is.rest, is.rest) ≡ None = sym (read_there other d t is) ∙ f in cc)
