-- Nodes in front of a text that lends them.
use Rattle.std.proofs.Common.{◌≡◌, ℕ, true, false, List, Option, Some, None, refl, ap, ◌∙◌, arith}
use Rattle.std.proofs.lemmas.Bool.{and_parts, and_from}
use Rattle.yq_core.{specs.Places.{locate, locate_items}, specs.Trees.{tree_of, items_tree}}
use Rattle.yq_core.specs.Keys.{has_unique_keys, each_has_unique_keys}
use Rattle.yq_core.specs.Nodes.{FlowNode, Items, node_text, flow_items_text, IsFlowNode, AreFlowItems, is_close}
use Rattle.yq_core.{specs.Reading.{all_node, all_items}, proofs.NodeLaws.{all_takes, all_again}, proofs.NodeTakes.items_takes}
use Rattle.yq_core.proofs.NodeAgain.{items_again}
use Rattle.yq_core.specs.Borrowed.{borrows_node, borrows_items, IsBorrowed, AreBorrowed, borrows_read, is_borrowed, borrows_all}
use Rattle.yq_core.specs.Borrowed.{are_borrowed, located_or_nothing, leading_node, located_or_end, leading_items}

read_borrowed : (d : ℕ) (t : List ℕ) (o : Option (FlowNode × List ℕ)) → all_node true (Some 0) d t ≡ o → borrows_read o ≡ true → IsBorrowed d t
read_borrowed d t None read h = absurd (let no : false ≡ true = h in cc)
read_borrowed d t (Some x) read h =
    let parts = and_parts (borrows_node x.0) (has_unique_keys (tree_of x.0)) h in
    let taken = all_takes true (Some 0) d t x read in
    record { node = x.0; rest = x.1; is_located = taken.0; valid = taken.1; borrowed = parts.0; unique = parts.1 }

-- a text that lends the node in front
pub borrowed_node : (d : ℕ) (t : List ℕ) → is_borrowed d t ≡ true → IsBorrowed d t
unfolding is_borrowed
borrowed_node d t h = read_borrowed d t (all_node true (Some 0) d t) refl h

read_front : (d : ℕ) (t : List ℕ) (node : FlowNode) (rest : List ℕ) → t ≡ node_text node rest → IsFlowNode true (Some 0) d node rest → all_node true (Some 0) d t ≡ Some (node, rest)
read_front d t node rest is_located valid = ap (all_node true (Some 0) d) is_located ∙ all_again true (Some 0) d node rest valid

pub node_borrowed : (d : ℕ) (t : List ℕ) → IsBorrowed d t → is_borrowed d t ≡ true
unfolding is_borrowed
node_borrowed d t is = ap borrows_read (read_front d t is.node is.rest is.is_located is.valid) ∙ and_from (borrows_node is.node) (has_unique_keys (tree_of is.node)) is.borrowed is.unique

-- it has its places
pub front_located : (total d : ℕ) (t : List ℕ) (node : FlowNode) (rest : List ℕ) → t ≡ node_text node rest → IsFlowNode true (Some 0) d node rest → leading_node total d t ≡ locate total node rest
unfolding leading_node
front_located total d t node rest is_located valid = ap (located_or_nothing total) (read_front d t node rest is_located valid)

read_items_borrowed : (d k : ℕ) (t : List ℕ) (o : Option (Items × List ℕ)) → all_items d k t ≡ o → borrows_all o ≡ true → AreBorrowed d k t
read_items_borrowed d k t None read h = absurd (let no : false ≡ true = h in cc)
read_items_borrowed d k t (Some x) read h =
    let parts = and_parts (borrows_items x.0) (each_has_unique_keys (items_tree x.0)) h in
    let taken = items_takes _ d k t x read in
    record { items = x.0; rest = x.1; are_there = taken.0; valid = taken.1; borrowed = parts.0; unique = parts.1 }

-- a text that lends the items or entries in front
pub borrowed_items : (d k : ℕ) (t : List ℕ) → are_borrowed d k t ≡ true → AreBorrowed d k t
unfolding are_borrowed
borrowed_items d k t h = read_items_borrowed d k t (all_items d k t) refl h

read_items_front : (d k : ℕ) (t : List ℕ) (items : Items) (rest : List ℕ) → is_close k ≡ true → t ≡ flow_items_text k items rest → AreFlowItems d k items rest → all_items d k t ≡ Some (items, rest)
read_items_front d k t items rest close are_there valid = ap (all_items d k) are_there ∙ items_again items _ d k rest close valid (omega arith)

pub items_borrowed : (d k : ℕ) (t : List ℕ) → is_close k ≡ true → AreBorrowed d k t → are_borrowed d k t ≡ true
unfolding are_borrowed
items_borrowed d k t close is = ap borrows_all (read_items_front d k t is.items is.rest close is.are_there is.valid) ∙ and_from (borrows_items is.items) (each_has_unique_keys (items_tree is.items)) is.borrowed is.unique

-- they have their places
pub items_located : (total d k : ℕ) (t : List ℕ) (items : Items) (rest : List ℕ) → is_close k ≡ true → t ≡ flow_items_text k items rest → AreFlowItems d k items rest → leading_items total d k t ≡ locate_items total k items rest
unfolding leading_items
items_located total d k t items rest close are_there valid = ap (located_or_end total k) (read_items_front d k t items rest close are_there valid)
