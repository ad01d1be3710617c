-- Where a path leads.
use Rattle.std.proofs.Common.{◌≡◌, ℕ, List, [], ◌∷◌, Option, Some, None, option_map, option_and_then, Bool, cond, refl, sym, ap, ◌∙◌, rules}
use Rattle.yq_core.{specs.Tree.{Node, Children, children_of, none, child}, specs.Paths.{Step, is_here, further, child_at, node_at}}
use Rattle.yq_outline.specs.Outline.{LineMark, Bare, Key, Dash, Line, Outline, end, row, anchored, head_or, label, outline_node, children}
use Rattle.yq_outline.specs.Outline.{value}
use Rattle.yq_outline.specs.Places.{here, plug, FoundLine, next_to, find_row, place_inside, bare_or, in_head, find, content_under}
use Rattle.yq_outline.{specs.Labelled.{Labelled, labelled_at, labelled_from}, proofs.Allowing.IsEntry, proofs.Plug.plug-compose}
use Rattle.yq_outline.proofs.Values.{If}

-- ---- items and entries where steps lead in a tree: their nodes are those of `child_at` and `node_at`

pub labelled_child : (s : Step) (cs : Children) → option_map (λ x. x.1) (labelled_at s cs) ≡ child_at s cs
labelled_child s none = refl
labelled_child s (child l n cs) = go (is_here s l) (labelled_child (further s) cs)
  where
    go : (b : Bool) → option_map (λ x. x.1) (labelled_at (further s) cs) ≡ child_at (further s) cs → option_map (λ x. x.1) (cond b (Some (l, n)) (labelled_at (further s) cs)) ≡ cond b (Some n) (child_at (further s) cs)
    go b h1 = search rules

pub labelled_path : (ss : List Step) (x : Labelled) → option_map (λ y. y.1) (labelled_from ss x) ≡ node_at ss x.1
labelled_path [] x = refl
labelled_path (s ∷ ss) x = go (λ y. labelled_path ss y) (labelled_at s (children_of x.1)) ∙ ap (option_and_then (node_at ss)) (labelled_child s (children_of x.1))
  where
    go : ((y : Labelled) → option_map (λ z. z.1) (labelled_from ss y) ≡ node_at ss y.1) → (r : Option Labelled) →
        option_map (λ y. y.1) (option_and_then (labelled_from ss) r) ≡ option_and_then (node_at ss) (option_map (λ y. y.1) r)
    go h1 r = search rules

-- ---- where a path leads

pub row_whole : (s : Step) (o : Outline) → If (find_row s o) (λ f. plug f.place (row f.line f.under f.after) ≡ o)
row_whole s end = tt
row_whole s (row k v a) = go (is_here s (label k)) (find_row (further s) a) (row_whole (further s) a)
  where
    go : (b : Bool) (r : Option FoundLine) → If r (λ f. plug f.place (row f.line f.under f.after) ≡ a) →
        If (cond b (Some (record { place = here; line = k; under = v; after = a })) (option_map (next_to k v) r)) (λ f. plug f.place (row f.line f.under f.after) ≡ row k v a)
    go b r h1 = search rules

-- what a line's entry or item is
abbrev pub entry_of : Line → Outline → Labelled
entry_of l under = (label l, content_under l under)

-- the item or entry where a step leads
pub row_labelled : (s : Step) (o : Outline) → labelled_at s (children o) ≡ option_map (λ f. entry_of f.line f.under) (find_row s o)
row_labelled s end = refl
row_labelled s (row k v a) = go (is_here s (label k)) (find_row (further s) a) (row_labelled (further s) a)
  where
    go : (b : Bool) (r : Option FoundLine) → labelled_at (further s) (children a) ≡ option_map (λ f. entry_of f.line f.under) r →
        cond b (Some (entry_of k v)) (labelled_at (further s) (children a)) ≡ option_map (λ f. entry_of f.line f.under) (cond b (Some (record { place = here; line = k; under = v; after = a })) (option_map (next_to k v) r))
    go b r h1 = search rules

-- its node
pub row_child : (s : Step) (o : Outline) → child_at s (children o) ≡ option_map (λ f. content_under f.line f.under) (find_row s o)
row_child s o = sym (labelled_child s (children o)) ∙ (ap (option_map (λ x. x.1)) (row_labelled s o) ∙ same (find_row s o))
  where
    same : (r : Option FoundLine) → option_map (λ x. x.1) (option_map (λ f. entry_of f.line f.under) r) ≡ option_map (λ f. content_under f.line f.under) r
    same r = search rules

pub node-anchored : (a : Option (List ℕ)) (s : Step) (ss : List Step) (n : Node) → node_at (s ∷ ss) (anchored a n) ≡ node_at (s ∷ ss) n
node-anchored a s ss n = search rules

abbrev pub FoundNode : Option (FoundLine × List Step) → Option Node
FoundNode r = option_and_then (λ x. node_at x.1 (content_under x.0.line x.0.under)) r

pub children-collection : (m : LineMark) (cs : Children) → IsEntry m → children_of (outline_node m cs) ≡ cs
children-collection m cs h1 = search rules

-- the node at a path is the one that its line means
pub path_node : (s : Step) (ss : List Step) (o : Outline) → node_at (s ∷ ss) (value o) ≡ FoundNode (find s ss o)
path_node s ss end = refl
path_node s [] (row k v a) = search (rules, option_and_then, children-collection, row_child, node-anchored)
path_node s (t ∷ ts) (row k v a) = go (λ u. path_node t ts u) k.mark
  where
    deep : (f : FoundLine) (q : Option (FoundLine × List Step)) → FoundNode (option_map (λ x. (place_inside f x.0, x.1)) q) ≡ FoundNode q
    deep f q = search rules

    head : ((u : Outline) → node_at (t ∷ ts) (value u) ≡ FoundNode (find t ts u)) → (f : FoundLine) (h : Option Node) →
        node_at (t ∷ ts) (anchored f.line.anchor (head_or h (value f.under))) ≡ FoundNode
        (in_head h (Some (record { place = f.place; line = record f.line { head = h }; under = f.under; after = f.after }, t ∷ ts))
        (option_map (λ x. (place_inside f x.0, x.1)) (find t ts f.under)))
    head ih f h = search (rules, f, node-anchored, deep)

    found : ((u : Outline) → node_at (t ∷ ts) (value u) ≡ FoundNode (find t ts u)) → (r : Option FoundLine) →
        option_and_then (node_at (t ∷ ts)) (option_map (λ f. content_under f.line f.under) r) ≡
        FoundNode (option_and_then (λ f. in_head f.line.head (Some (f, t ∷ ts)) (option_map (λ x. (place_inside f x.0, x.1)) (find t ts f.under))) r)
    found ih None = refl
    found ih (Some f) = head ih f f.line.head

    entry : ((u : Outline) → node_at (t ∷ ts) (value u) ≡ FoundNode (find t ts u)) → (m : LineMark) → IsEntry m →
        node_at (s ∷ (t ∷ ts)) (outline_node m (children (row k v a))) ≡ FoundNode (option_and_then (λ f. in_head f.line.head (Some (f, t ∷ ts)) (option_map (λ x. (place_inside f x.0, x.1)) (find t ts f.under))) (find_row s (row k v a)))
    entry ih m c = ap (λ cs. option_and_then (node_at (t ∷ ts)) (child_at s cs)) (children-collection m (children (row k v a)) c) ∙ (ap (option_and_then (node_at (t ∷ ts))) (row_child s (row k v a)) ∙ found ih (find_row s (row k v a)))

    go : ((u : Outline) → node_at (t ∷ ts) (value u) ≡ FoundNode (find t ts u)) → (m : LineMark) →
        node_at (s ∷ (t ∷ ts)) (outline_node m (children (row k v a))) ≡ FoundNode (bare_or m (Some (record { place = here; line = k; under = v; after = a }, s ∷ (t ∷ ts)))
        (option_and_then (λ f. in_head f.line.head (Some (f, t ∷ ts)) (option_map (λ x. (place_inside f x.0, x.1)) (find t ts f.under))) (find_row s (row k v a))))
    go ih Bare = refl
    go ih (Key j) = entry ih (Key j) tt
    go ih Dash = entry ih Dash tt

abbrev pub IsFoundIn : Outline → (FoundLine × List Step) → Type 0
IsFoundIn o x = plug x.0.place (row x.0.line x.0.under x.0.after) ≡ o

pub path_whole : (s : Step) (ss : List Step) (o : Outline) → If (find s ss o) (IsFoundIn o)
path_whole s ss end = tt
path_whole s [] (row k v a) = go k.mark (find_row s (row k v a)) (row_whole s (row k v a))
  where
    go : (m : LineMark) (r : Option FoundLine) → If r (λ f. plug f.place (row f.line f.under f.after) ≡ row k v a) →
        If (bare_or m (Some (record { place = here; line = k; under = v; after = a }, s ∷ [])) (option_map (λ f. (f, [])) r)) (IsFoundIn (row k v a))
    go m r h1 = search rules
path_whole s (t ∷ ts) (row k v a) = go (λ u. path_whole t ts u) k.mark (find_row s (row k v a)) (row_whole s (row k v a))
  where
    deep : (f : FoundLine) (h : Option Node) → plug f.place (row f.line f.under f.after) ≡ row k v a → (q : Option (FoundLine × List Step)) → If q (IsFoundIn f.under) →
        If (in_head h (Some (f, t ∷ ts)) (option_map (λ x. (place_inside f x.0, x.1)) q)) (IsFoundIn (row k v a))
    deep f h h1 q h2 = search (rules, plug-compose)

    found : ((u : Outline) → If (find t ts u) (IsFoundIn u)) → (r : Option FoundLine) → If r (λ f. plug f.place (row f.line f.under f.after) ≡ row k v a) →
        If (option_and_then (λ f. in_head f.line.head (Some (f, t ∷ ts)) (option_map (λ x. (place_inside f x.0, x.1)) (find t ts f.under))) r) (IsFoundIn (row k v a))
    found ih None h = tt
    found ih (Some f) h = deep f f.line.head h (find t ts f.under) (ih f.under)

    go : ((u : Outline) → If (find t ts u) (IsFoundIn u)) → (m : LineMark) → (r : Option FoundLine) → If r (λ f. plug f.place (row f.line f.under f.after) ≡ row k v a) →
        If (bare_or m (Some (record { place = here; line = k; under = v; after = a }, s ∷ (t ∷ ts)))
        (option_and_then (λ f. in_head f.line.head (Some (f, t ∷ ts)) (option_map (λ x. (place_inside f x.0, x.1)) (find t ts f.under))) r)) (IsFoundIn (row k v a))
    go ih Bare r h = refl
    go ih x r h = found ih r h
