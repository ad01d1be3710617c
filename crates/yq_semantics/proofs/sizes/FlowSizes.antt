-- An inline node takes two bytes at least for each item and entry in it, and for each eight bytes that its scalars mean.
use Rattle.std.proofs.Common.{◌≡◌, ℕ, zero, suc, ◌+◌, ◌*◌, ◌≤◌, Bool, true, false, ◌||◌, not, List, ◌∷◌, ◌++◌, length, Option, Some, refl}
use Rattle.std.{proofs.Common.{sym, ◌∙◌, arith, length-append, rules}, proofs.lemmas.Bool.false≢true}
use Rattle.yq_core.specs.Nodes.{Key, bare, keyed, Sep, last, comma, FlowNode, empty, alias, scalar, coll, anchored, Items, none, item}
use Rattle.yq_core.specs.Nodes.{IsSep, key_text, sep_text, node_text, flow_items_text, begins_with, is_close, is_empty_node, is_keyed}
use Rattle.yq_core.{specs.Nodes.{IsFlowNode, AreFlowItems}, specs.Trees.{tree_of, items_tree, tree_collection, with_name}}
use Rattle.yq_core.{specs.Tree.{Node, Children}, proofs.NodesPieceLaws.scalar_some, proofs.NodeAgain.{item_front, items_longer}}
use Rattle.yq_semantics.{specs.Sizes.{items_in, items_among}, proofs.sizes.TextSizes.scalar_size}
use Rattle.yq_core.specs.Tree as tree

-- the byte that something takes at least
abbrev byte_of : Bool → ℕ
byte_of true = 0
byte_of false = 1

named : (a : List ℕ) (n : Node) → items_in (with_name a n) ≡ items_in n
named a (tree.alias n) = refl
named a (tree.scalar b k t) = refl
named a (tree.list b cs) = refl
named a (tree.map b cs) = refl

collected : (k : ℕ) (cs : Children) → items_in (tree_collection k cs) ≡ items_among cs
collected k cs = search rules

key_bytes : (key : Key) (rest : List ℕ) (empty : Bool) → (is_keyed key || not empty) ≡ true → suc (length rest) ≤ byte_of empty + length (key_text key rest)
key_bytes bare rest true h = absurd (cc)
key_bytes bare rest false h = omega arith
key_bytes (keyed t b g) rest e h = omega (arith, length-append t (b ++ (58 ∷ (g ++ rest))), length-append b (58 ∷ (g ++ rest)), length-append g rest)

-- the last item's closing bracket follows
none_left : (d k : ℕ) (is : Items) (rest : List ℕ) → is_close k ≡ true → AreFlowItems d k is rest → begins_with k (flow_items_text k is rest) ≡ true → items_among (items_tree is) ≡ 0
unfolding items_tree flow_items_text AreFlowItems
none_left d k none rest close h e = refl
none_left d k (item key n s is) rest close h e =
    absurd (false≢true (sym (item_front true (Some 0) d k key n (sep_text s (flow_items_text k is rest)) close h.1 h.0 h.2) ∙ e))

-- after an item comes a comma, or the closing bracket
sep_bytes : (d k : ℕ) (s : Sep) (is : Items) (rest : List ℕ) → is_close k ≡ true → IsSep k s (flow_items_text k is rest) → AreFlowItems d k is rest →
    2 * items_among (items_tree is) + length rest ≤ length (flow_items_text k is rest) → suc (2 * items_among (items_tree is) + length rest) ≤ length (sep_text s (flow_items_text k is rest))
sep_bytes d k (last b) is rest close h valid less =
    let text = flow_items_text k is rest in
    omega (arith, none_left d k is rest close valid h.1, items_longer k is rest, length-append b text)
sep_bytes d k (comma b g) is rest close h valid less =
    let text = flow_items_text k is rest in
    omega (arith, less, length-append b (44 ∷ (g ++ text)), length-append g text)

mutual
  unfolding tree_of items_tree node_text flow_items_text IsFlowNode AreFlowItems

  pub node_bytes : (flow : Bool) (spaces : Option ℕ) (d : ℕ) (n : FlowNode) (rest : List ℕ) → IsFlowNode flow spaces d n rest →
      byte_of (is_empty_node n) + (2 * items_in (tree_of n) + length rest) ≤ length (node_text n rest)
  node_bytes flow spaces d empty rest h = omega arith
  node_bytes flow spaces d (alias n) rest h = omega (arith, length-append n rest)
  node_bytes flow spaces d (scalar p) rest h = omega (arith, length-append p rest, scalar_size p (scalar_some flow spaces p rest h))
  node_bytes flow spaces (suc d) (coll k g is) rest h =
      let inside = items_bytes d k is rest h.0 h.2 in
      omega (arith, collected k (items_tree is), length-append g (flow_items_text k is rest), inside)
  node_bytes flow spaces zero (coll k g is) rest h = absurd h.2
  node_bytes flow spaces d (anchored n g node) rest h =
      let inside = node_bytes flow spaces d node rest h.4 in
      omega (arith, named n (tree_of node), length-append n (g ++ node_text node rest), length-append g (node_text node rest), inside)

  items_bytes : (d k : ℕ) (is : Items) (rest : List ℕ) → is_close k ≡ true → AreFlowItems d k is rest → 2 * items_among (items_tree is) + length rest ≤ length (flow_items_text k is rest)
  items_bytes d k none rest close h = omega arith
  items_bytes d k (item key n s is) rest close h =
      let after = flow_items_text k is rest in
      let others = sep_bytes d k s is rest close h.3 h.4 (items_bytes d k is rest close h.4) in
      let inside = node_bytes true (Some 0) d n (sep_text s after) h.2 in
      omega (arith, others, inside, key_bytes key (node_text n (sep_text s after)) (is_empty_node n) h.1)
