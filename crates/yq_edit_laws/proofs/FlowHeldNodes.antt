-- Steps lead to a flow collection in an inline node where they lead to a collection in its tree.
use Rattle.std.proofs.Common.{rules, ◌≡◌, ℕ, Bool, true, false, cond, eqb, List, [], ◌∷◌, Option, Some, None, option_map, refl, sym, ap}
use Rattle.std.{proofs.Common.{◌∙◌, inl, inr, subst, ◌⊎◌}, proofs.lemmas.Option.{none-some, same_Some}, specs.Prelude.option_and_then}
use Rattle.yq_core.{specs.Paths.{Step, further, child_at, node_at}, specs.Tree.{Children, children_of, Node}}
use Rattle.yq_core.{specs.Collections.{CollPieces, coll_along, coll_in}, specs.Entries.{EntryPieces, path_inside, item_at}}
use Rattle.yq_core.specs.Nodes.{FlowNode, coll, anchored, Items, none, item}
use Rattle.yq_core.{specs.Trees.{tree_collection, items_tree, tree_of, with_name}, specs.Answers.◌>>=◌}
use Rattle.yq_outline.specs.Outline.{LineMark, Bare, Key, Dash, Outline, end, row, value}
use Rattle.yq_outline.{specs.Places.{here, FoundLine, find, in_head, place_inside, content_under}, specs.Positions.has_no_mark}
use Rattle.yq_outline.proofs.Finding.{path_node}
use Rattle.yq_places.specs.FlowNodes.{bare_line, find_head, head_line}
use Rattle.yq_edit_rules.specs.Siblings.{HasEntries, IsCollectionAt, IsEntry, NodeLines, lines_below, under_line}
use Rattle.yq_core.specs.Tree as tree
use Rattle.yq_outline.specs.Outline as outlines

-- ---- what a collection holds

-- whether it is a mapping, and its items or entries
abbrev pub FlowContent : Type 0
FlowContent = Bool × Children

-- what a node holds, if it is a collection
abbrev pub held : tree.Node → Option FlowContent
held (tree.alias n) = None
held (tree.scalar a kind text) = None
held (tree.list a cs) = Some (false, cs)
held (tree.map a cs) = Some (true, cs)

-- what a flow collection holds
abbrev pub coll_held : CollPieces → FlowContent
coll_held w = (eqb w.close 125, items_tree w.items)

-- an anchor changes nothing of it
pub held_anchored : (a : Option (List ℕ)) (n : tree.Node) → held (outlines.anchored a n) ≡ held n
held_anchored a n = search rules

pub held_named : (n : List ℕ) (v : tree.Node) → held (with_name n v) ≡ held v
held_named n v = search rules

pub held_coll : (k : ℕ) (cs : Children) → held (tree_collection k cs) ≡ Some (eqb k 125, cs)
held_coll k cs = elim (eqb k 125) as (λ b. held (cond b (tree.map None cs) (tree.list None cs)) ≡ Some (b, cs)) [ true ↦ refl | false ↦ refl ]

abbrev kids : Option FlowContent → Children
kids None = tree.none
kids (Some x) = x.1

pub kids_held : (n : tree.Node) → children_of n ≡ kids (held n)
kids_held n = search rules

-- ---- a collection at a path

-- Steps lead from a node to a collection that holds these.
abbrev pub HeldAt : List Step → tree.Node → FlowContent → Type 0
HeldAt ss root x = (n : tree.Node) × (node_at ss root ≡ Some n) × (held n ≡ Some x)

-- the same from another node that holds the same
pub same_held : (ss : List Step) (a b : tree.Node) (x : FlowContent) → held a ≡ held b → HeldAt ss a x → HeldAt ss b x
same_held [] a b x same h = (b, refl, sym same ∙ (ap held (same_Some _ _ h.1) ∙ h.2))
same_held (s ∷ ss) a b x same h = search (rules, kids_held b ∙ (ap kids (sym same) ∙ sym (kids_held a)))

-- ---- in an inline node

coll_here : (node : FlowNode) (rest : List ℕ) (x : FlowContent) → held (tree_of node) ≡ Some x → (w : CollPieces) × (coll_in node rest ≡ Some w) × (coll_held w ≡ x)
unfolding tree_of
coll_here (coll k gap is) rest x e = (record { close = k; gap = gap; items = is; rest = rest }, refl, same_Some _ _ (sym (held_coll k (items_tree is)) ∙ e))
coll_here (anchored n gap node) rest x e = coll_here node rest x (sym (held_named n (tree_of node)) ∙ e)
coll_here _ rest x e = absurd (none-some _ e)

-- the tree of an item or entry
abbrev pub entry_tree : EntryPieces → tree.Node
entry_tree y = tree_of y.node

pub item_child : (k : ℕ) (s : Step) (is : Items) (rest : List ℕ) → option_map entry_tree (item_at k s is rest) ≡ child_at s (items_tree is)
unfolding items_tree
item_child k s none rest = refl
item_child k s (item key n sep is) rest = search (rules, item_child k (further s) is rest)

pub inside_child : (s : Step) (node : FlowNode) (rest : List ℕ) → option_map entry_tree (path_inside s node rest) ≡ child_at s (kids (held (tree_of node)))
unfolding tree_of
inside_child s (coll k gap is) rest = item_child k s is rest ∙ ap (λ o. child_at s (kids o)) (sym (held_coll k (items_tree is)))
inside_child s (anchored n gap node) rest = inside_child s node rest ∙ ap (λ o. child_at s (kids o)) (sym (held_named n (tree_of node)))
inside_child s _ rest = refl

-- Steps lead from a node before a rest to a flow collection that holds these.
abbrev pub CollThere : List Step → FlowNode → List ℕ → FlowContent → Type 0
CollThere ss node rest x = (w : CollPieces) × (coll_along ss node rest ≡ Some w) × (coll_held w ≡ x)

-- Where steps lead to a collection in its tree they lead to one in the node.
pub coll_there : (ss : List Step) (node : FlowNode) (rest : List ℕ) (x : FlowContent) → HeldAt ss (tree_of node) x → CollThere ss node rest x
coll_there [] node rest x h = coll_here node rest x (ap held (same_Some _ _ h.1) ∙ h.2)
coll_there (s ∷ ss) node rest x h =
    let child : option_map entry_tree (path_inside s node rest) ≡ child_at s (children_of (tree_of node)) = inside_child s node rest ∙ ap (child_at s) (sym (kids_held (tree_of node))) in
    go (path_inside s node rest) refl (ap (option_and_then (node_at ss)) child ∙ h.1) (λ y found. coll_there ss y.node y.rest x found)
  where
    go : (o : Option EntryPieces) → path_inside s node rest ≡ o → option_and_then (node_at ss) (option_map entry_tree o) ≡ Some h.0 →
        ((y : EntryPieces) → HeldAt ss (entry_tree y) x → CollThere ss y.node y.rest x) → CollThere (s ∷ ss) node rest x
    go None is e again = absurd (none-some _ e)
    go (Some y) is e again = let w = again y (h.0, e, h.2) in (w.0, ap (option_and_then (λ (z : EntryPieces). coll_along ss z.node z.rest)) is ∙ w.1, w.2)

-- What a flow collection in the node holds, the tree's collection there holds.
coll_inside : (node : FlowNode) (rest : List ℕ) (w : CollPieces) → coll_in node rest ≡ Some w → held (tree_of node) ≡ Some (coll_held w)
unfolding tree_of
coll_inside (coll k gap is) rest w e = held_coll k (items_tree is) ∙ ap (λ (v : CollPieces). Some (coll_held v)) (same_Some _ _ e)
coll_inside (anchored n gap node) rest w e = held_named n (tree_of node) ∙ coll_inside node rest w e
coll_inside _ rest w e = absurd (none-some _ e)

pub coll_holds : (ss : List Step) (node : FlowNode) (rest : List ℕ) (w : CollPieces) → coll_along ss node rest ≡ Some w → HeldAt ss (tree_of node) (coll_held w)
coll_holds [] node rest w e = (tree_of node, refl, coll_inside node rest w e)
coll_holds (s ∷ ss) node rest w e =
    let child : option_map entry_tree (path_inside s node rest) ≡ child_at s (children_of (tree_of node)) = inside_child s node rest ∙ ap (child_at s) (sym (kids_held (tree_of node))) in
    go (path_inside s node rest) (ap (option_and_then (node_at ss)) (sym child)) e (λ y found. coll_holds ss y.node y.rest w found)
  where
    go : (o : Option EntryPieces) →
        option_and_then (node_at ss) (child_at s (children_of (tree_of node))) ≡ option_and_then (node_at ss) (option_map entry_tree o) →
        option_and_then (λ (y : EntryPieces). coll_along ss y.node y.rest) o ≡ Some w →
        ((y : EntryPieces) → coll_along ss y.node y.rest ≡ Some w → HeldAt ss (entry_tree y) (coll_held w)) → HeldAt (s ∷ ss) (tree_of node) (coll_held w)
    go None is e again = absurd (none-some _ e)
    go (Some y) is e again = let h = again y e in (h.0, is ∙ h.1, h.2)

-- ---- a collection at a path is in the head of a line, in flow, or it has lines of its own, in block

abbrev Reached : Type 0
Reached = FoundLine × List Step

-- The collection at a path is in the head of a line, or it has lines of its own.
abbrev pub Cases : List Step → Outline → Type 0
Cases steps o = ((y : FoundLine × List Step) × (find_head steps o ≡ Some y)) ⊎ ((h : NodeLines) × IsCollectionAt steps o h)

-- the lines of a node that is a collection: the first of them is the node itself, or an entry or item
lines_cases : (o : Outline) (x : FlowContent) → held (value o) ≡ Some x → ((b : FoundLine) × (bare_line o ≡ Some b)) ⊎ HasEntries o
lines_cases end x is = absurd (none-some _ is)
lines_cases (row l u v) x is = go l.mark refl
  where
    go : (m : LineMark) → l.mark ≡ m → ((b : FoundLine) × (cond (has_no_mark l.mark) (Some (record { place = here; line = l; under = u; after = v })) None ≡ Some b)) ⊎ HasEntries (row l u v)
    go Bare mark = inl (record { place = here; line = l; under = u; after = v }, ap (λ (m : LineMark). cond (has_no_mark m) (Some (record { place = here; line = l; under = u; after = v })) None) mark)
    go (Key k) mark = inr (subst IsEntry (sym mark) tt)
    go Dash mark = inr (subst IsEntry (sym mark) tt)

-- at the root
root_cases : (o : Outline) (x : FlowContent) → held (value o) ≡ Some x → Cases [] o
root_cases o x is = go (lines_cases o x is)
  where
    go : ((b : FoundLine) × (bare_line o ≡ Some b)) ⊎ HasEntries o → Cases [] o
    go (inl b) = inl ((b.0, []), ap (option_map {U = Reached} (λ f. (f, []))) b.1)
    go (inr h) = inr (record { place = here; above = 0; anchor = None; lines = o }, record { place_is = refl; block = h })

-- below it
below_cases : (s : Step) (ss : List Step) (o : Outline) (f : FoundLine) (x : FlowContent) → find s ss o ≡ Some (f, []) → held (content_under f.line f.under) ≡ Some x → Cases (s ∷ ss) o
below_cases s ss o f x found is = go f.line.head refl
  where
    head_is : (h : Option Node) → f.line.head ≡ h → find_head (s ∷ ss) o ≡ in_head h (Some (f, [])) (option_map {U = Reached} (λ b. (place_inside f b, [])) (bare_line f.under))
    head_is h head = ap (λ (r : Option Reached). r >>= λ z. head_line z.0 z.1) found ∙ ap (λ k. in_head k (Some (f, [])) (option_map {U = Reached} (λ b. (place_inside f b, [])) (bare_line f.under))) head

    under : f.line.head ≡ None → ((b : FoundLine) × (bare_line f.under ≡ Some b)) ⊎ HasEntries f.under → Cases (s ∷ ss) o
    under head (inl b) = inl ((place_inside f b.0, []), head_is None head ∙ ap (option_map {U = Reached} (λ z. (place_inside f z, []))) b.1)
    under head (inr h) = inr (
      under_line f,
      record { place_is = ap (option_and_then (λ (z : Reached). lines_below z.0.line.head z.1 z.0)) found ∙ ap (λ k. lines_below k [] f) head; block = h },
    )

    go : (h : Option Node) → f.line.head ≡ h → Cases (s ∷ ss) o
    go (Some n) head = inl ((f, []), head_is (Some n) head)
    go None head = search (rules, held, held_anchored, under, lines_cases)

pub collection_cases : (steps : List Step) (o : Outline) (x : FlowContent) → HeldAt steps (value o) x → Cases steps o
collection_cases [] o x h = root_cases o x (ap held (same_Some _ _ h.1) ∙ h.2)
collection_cases (s ∷ ss) o x h = go (find s ss o) refl (sym (path_node s ss o) ∙ h.1)
  where
    line : (f : FoundLine) (left : List Step) → find s ss o ≡ Some (f, left) → node_at left (content_under f.line f.under) ≡ Some h.0 → Cases (s ∷ ss) o
    line f [] found at = below_cases s ss o f x found (ap held (same_Some _ _ at) ∙ h.2)
    line f (t ∷ ts) found at = inl ((f, t ∷ ts), ap (λ (r : Option Reached). r >>= λ z. head_line z.0 z.1) found)

    go : (r : Option Reached) → find s ss o ≡ r → option_and_then (λ z. node_at z.1 (content_under z.0.line z.0.under)) r ≡ Some h.0 → Cases (s ∷ ss) o
    go None found at = absurd (none-some _ at)
    go (Some z) found at = line z.0 z.1 found at
