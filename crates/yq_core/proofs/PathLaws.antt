-- Where a path leads in a node, in its tree, and in its text.
use Rattle.std.proofs.Common.{arith, ◌+◌, length, eqb, ◌≡◌, ℕ, zero, suc, Bool, true, false, cond, List, [], ◌∷◌, ◌++◌, Option, Some}
use Rattle.std.{proofs.Common.{option_map, option_and_then, refl, sym, ap, ◌∙◌, subst, append_assoc, rules}, proofs.lemmas.Option.same_Some}
use Rattle.yq_core.{specs.Paths.{Step, is_here, further, child_at, node_at}, specs.Tree.{children_of, key_label}}
use Rattle.yq_core.specs.Nodes.{FlowNode, coll, anchored, Items, none, item, node_text, flow_items_text, opening_bracket, IsFlowNode}
use Rattle.yq_core.specs.Nodes.{AreFlowItems}
use Rattle.yq_core.specs.Entries.{PlacedEntry, EntryPieces, IsEntryInText, parts_in, parts_of, flow_part_at, placed_entry_at, pieces_text}
use Rattle.yq_core.specs.Entries.{locate_entry, item_at, path_inside, entry_pieces_at}
use Rattle.yq_core.specs.Places.{Placed, placed, sequence, mapping, holder, anchored_node, Parts, end, part, locate, locate_items}
use Rattle.yq_core.{specs.Trees.{with_anchor_name, unplaced_key, placed_tree, parts_tree}, proofs.TreeLaws.key_tree}
use Rattle.yq_core.proofs.NodesWrittenLaws.{key_append, sep_append, node_append}
use Rattle.yq_core.specs.Tree as tree

-- in the tree
named_children : (a : Option (List ℕ)) (v : tree.Node) → children_of (with_anchor_name a v) ≡ children_of v
named_children a v = search rules

placed_children : (p : Placed) → children_of (placed_tree p) ≡ parts_tree (parts_of p)
placed_children (placed a s c e what) = search (rules, named_children)

abbrev pub entry_tree : PlacedEntry → tree.Node
entry_tree x = placed_tree x.1

map_first : {A B : Type 0} {p : Option B} (f : A → B) (c : Bool) (x : A) (o : Option A) → option_map f o ≡ p → option_map f (cond c (Some x) o) ≡ cond c (Some (f x)) p
map_first f c x o h = search rules

part_tree : (s : Step) (parts : Parts) → option_map entry_tree (flow_part_at s parts) ≡ child_at s (parts_tree parts)
part_tree s end = refl
part_tree s (part key n parts) = map_first entry_tree (is_here s (key_label (unplaced_key key))) (key, n) (flow_part_at (further s) parts) (part_tree (further s) parts)

then_map : {A B C D : Type 0} (f : A → Option B) (g : C → Option D) (u : A → C) (v : B → D) → ((x : A) → option_map v (f x) ≡ g (u x)) → (o : Option A) → option_map v (option_and_then f o) ≡ option_and_then g (option_map u o)
then_map f g u v h o = search rules

-- a path exists in a node where it exists in the node's tree
pub path_tree : (ss : List Step) (x : PlacedEntry) → option_map entry_tree (placed_entry_at ss x) ≡ node_at ss (placed_tree x.1)
path_tree [] x = refl
path_tree (s ∷ ss) x =
    then_map (placed_entry_at ss) (node_at ss) entry_tree entry_tree (path_tree ss) (flow_part_at s (parts_of x.1))
    ∙ ap (option_and_then (node_at ss)) (part_tree s (parts_of x.1) ∙ ap (child_at s) (sym (placed_children x.1)))

items_place : (total k : ℕ) (s : Step) (is : Items) (rest : List ℕ) → flow_part_at s (locate_items total k is rest) ≡ option_map (locate_entry total) (item_at k s is rest)
unfolding locate_items
items_place total k s none rest = refl
items_place total k s (item key n sep is) rest = search (rules, key_tree, map_first, items_place total k (further s) is rest)

held : (k : ℕ) (parts : Parts) → parts_in (holder k parts) ≡ parts
held k parts = go (eqb k 125) where
  go : (c : Bool) → parts_in (cond c (mapping parts) (sequence parts)) ≡ parts
  go true = refl
  go false = refl

parts_anchored : (n : List ℕ) (at : ℕ) (p : Placed) → parts_of (anchored_node n at p) ≡ parts_of p
parts_anchored n at (placed a s c e what) = refl

inside_place : (total : ℕ) (s : Step) (node : FlowNode) (rest : List ℕ) → flow_part_at s (parts_of (locate total node rest)) ≡ option_map (locate_entry total) (path_inside s node rest)
unfolding locate
inside_place total s (coll k g is) rest = ap (flow_part_at s) (held k (locate_items total k is rest)) ∙ items_place total k s is rest
inside_place total s (anchored n g node) rest = ap (flow_part_at s) (parts_anchored n _ (locate total node rest)) ∙ inside_place total s node rest
inside_place total s _ rest = refl

then_places : {A B : Type 0} (f : A → Option A) (g : B → Option B) (v : A → B) → ((x : A) → g (v x) ≡ option_map v (f x)) → (o : Option A) → option_and_then g (option_map v o) ≡ option_map v (option_and_then f o)
then_places f g v h o = search rules

-- where a path leads is at its place
pub path_places : (total : ℕ) (ss : List Step) (x : EntryPieces) → placed_entry_at ss (locate_entry total x) ≡ option_map (locate_entry total) (entry_pieces_at ss x)
path_places total [] x = refl
path_places total (s ∷ ss) x = search (rules, inside_place, then_places, path_places total ss)

-- in the text
after : (t u p : List ℕ) (x : EntryPieces) → t ≡ p ++ u → IsEntryInText u x → IsEntryInText t x
after t u p x is h = record { before = p ++ h.before; text = is ∙ (ap (λ l. p ++ l) h.text ∙ sym (append_assoc p h.before (pieces_text x))) }

items_are_there : (k : ℕ) (s : Step) (is : Items) (rest : List ℕ) (x : EntryPieces) → item_at k s is rest ≡ Some x → IsEntryInText (flow_items_text k is rest) x
unfolding flow_items_text
items_are_there k s none rest x h = cc
items_are_there k s (item key n sep is) rest x h = search (rules, sep_append, node_append, key_append, same_Some, after, items_are_there k (further s) is rest x)

inside_is_there : (s : Step) (node : FlowNode) (rest : List ℕ) (x : EntryPieces) → path_inside s node rest ≡ Some x → IsEntryInText (node_text node rest) x
unfolding node_text
inside_is_there s (coll k g is) rest x h = after (opening_bracket k ∷ (g ++ flow_items_text k is rest)) (flow_items_text k is rest) (opening_bracket k ∷ g) x refl (items_are_there k s is rest x h)
inside_is_there s (anchored n g node) rest x h =
    after (38 ∷ (n ++ (g ++ node_text node rest))) (node_text node rest) (38 ∷ (n ++ g)) x (ap (λ l. 38 ∷ l) (sym (append_assoc n g (node_text node rest)))) (inside_is_there s node rest x h)
inside_is_there s _ rest x h = cc

pub then_some : {A B : Type 0} {f : A → Option B} {y : B} (o : Option A) → option_and_then f o ≡ Some y → (x : A) × (o ≡ Some x) × (f x ≡ Some y)
then_some o h = search rules

pub path_is_there : (ss : List Step) (x y : EntryPieces) → entry_pieces_at ss x ≡ Some y → IsEntryInText (pieces_text x) y
path_is_there [] x y h = record { before = []; text = ap pieces_text (same_Some _ _ h) }
path_is_there (s ∷ ss) x y h =
    let z = then_some (path_inside s x.node x.rest) h in
    let first = inside_is_there s x.node x.rest z.0 z.1 in
    search (rules, after, key_append, path_is_there ss z.0 y z.2)

-- and is a node there
pub items_hold : (d k : ℕ) (s : Step) (is : Items) (rest : List ℕ) (x : EntryPieces) → AreFlowItems d k is rest → item_at k s is rest ≡ Some x → IsFlowNode true (Some 0) d x.node x.rest
unfolding AreFlowItems
items_hold d k s none rest x a h = cc
items_hold d k s (item key n sep is) rest x a h = search (rules, same_Some, items_hold d k (further s) is rest x a.4)

inside_holds : (flow : Bool) (spaces : Option ℕ) (d : ℕ) (s : Step) (node : FlowNode) (rest : List ℕ) (x : EntryPieces) →
    IsFlowNode flow spaces d node rest → path_inside s node rest ≡ Some x → (e : ℕ) × (d ≡ suc e) × IsFlowNode true (Some 0) e x.node x.rest
unfolding IsFlowNode
inside_holds flow spaces zero s (coll k g is) rest x a h = absurd a.2
inside_holds flow spaces (suc d) s (coll k g is) rest x a h = (d, refl, items_hold d k s is rest x a.2 h)
inside_holds flow spaces d s (anchored n g node) rest x a h = inside_holds flow spaces d s node rest x a.4 h
inside_holds flow spaces d s _ rest x a h = cc

further_holds : (ss : List Step) (z y : EntryPieces) (e : ℕ) → IsFlowNode true (Some 0) e z.node z.rest → entry_pieces_at ss z ≡ Some y → (d : ℕ) × (e ≡ length ss + d) × IsFlowNode true (Some 0) d y.node y.rest
further_holds [] z y e a h = subst (λ (w : EntryPieces). (d : ℕ) × (e ≡ 0 + d) × IsFlowNode true (Some 0) d w.node w.rest) (same_Some _ _ h) (e, omega arith, a)
further_holds (s ∷ ss) z y e a h =
    let w = then_some (path_inside s z.node z.rest) h in
    let b = inside_holds true (Some 0) e s z.node z.rest w.0 a w.1 in
    search (rules, further_holds ss w.0 y b.0 b.2 w.2)

pub path_holds : (flow : Bool) (spaces : Option ℕ) (d : ℕ) (s : Step) (ss : List Step) (x y : EntryPieces) → IsFlowNode flow spaces d x.node x.rest →
    entry_pieces_at (s ∷ ss) x ≡ Some y → (e : ℕ) × (d ≡ length (s ∷ ss) + e) × IsFlowNode true (Some 0) e y.node y.rest
path_holds flow spaces d s ss x y a h = search (rules, then_some, inside_holds, further_holds)
