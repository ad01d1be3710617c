-- Where steps lead in what lines mean, with the label there.
use Rattle.std.proofs.Common.{◌≡◌, ℕ, List, [], ◌∷◌, Option, Some, None, option_map, option_and_then, refl, rules}
use Rattle.yq_core.{specs.Tree.{Node, children_of}, specs.Paths.Step}
use Rattle.yq_outline.specs.Labelled.{Labelled, labelled_at, labelled_from}
use Rattle.yq_outline.specs.Outline.{LineMark, Bare, Key, Dash, Outline, end, row, anchored, head_or, outline_node, children, value}
use Rattle.yq_outline.{specs.Places.{here, FoundLine, find_row, place_inside, bare_or, in_head, find}, proofs.Allowing.IsEntry}
use Rattle.yq_outline.{proofs.Finding.{entry_of, row_labelled, children-collection}, proofs.Values.If}

-- where steps lead from a node
abbrev pub reach : Step → List Step → Node → Option Labelled
reach s ss n = option_and_then (labelled_from ss) (labelled_at s (children_of n))

reach-anchored : (a : Option (List ℕ)) (s : Step) (ss : List Step) (n : Node) → reach s ss (anchored a n) ≡ reach s ss n
reach-anchored a s ss n = search rules

abbrev pub FoundEntry : Option (FoundLine × List Step) → Option Labelled
FoundEntry r = option_and_then (λ x. labelled_from x.1 (entry_of x.0.line x.0.under)) r

-- the entry or item at a path is that of its line
pub path_entry : (s : Step) (ss : List Step) (o : Outline) → reach s ss (value o) ≡ FoundEntry (find s ss o)
path_entry s ss end = refl
path_entry s [] (row k v a) = search (rules, option_and_then, entry_of, children-collection, row_labelled, reach-anchored)
path_entry s (t ∷ ts) (row k v a) = go (λ u. path_entry t ts u) k.mark
  where
    deep : (f : FoundLine) (q : Option (FoundLine × List Step)) → FoundEntry (option_map (λ x. (place_inside f x.0, x.1)) q) ≡ FoundEntry q
    deep f q = search rules

    head : ((u : Outline) → reach t ts (value u) ≡ FoundEntry (find t ts u)) → (f : FoundLine) (h : Option Node) →
        reach t ts (anchored f.line.anchor (head_or h (value f.under))) ≡ FoundEntry
        (in_head h (Some (record { place = f.place; line = record f.line { head = h }; under = f.under; after = f.after }, t ∷ ts))
        (option_map (λ x. (place_inside f x.0, x.1)) (find t ts f.under)))
    head ih f h = search (rules, f, reach-anchored, deep)

    found : ((u : Outline) → reach t ts (value u) ≡ FoundEntry (find t ts u)) → (r : Option FoundLine) →
        option_and_then (labelled_from (t ∷ ts)) (option_map (λ f. entry_of f.line f.under) r) ≡
        FoundEntry (option_and_then (λ f. in_head f.line.head (Some (f, t ∷ ts)) (option_map (λ x. (place_inside f x.0, x.1)) (find t ts f.under))) r)
    found ih None = refl
    found ih (Some f) = head ih f f.line.head

    entry : ((u : Outline) → reach t ts (value u) ≡ FoundEntry (find t ts u)) → (m : LineMark) → IsEntry m →
        reach s (t ∷ ts) (outline_node m (children (row k v a))) ≡ FoundEntry (option_and_then (λ f. in_head f.line.head (Some (f, t ∷ ts)) (option_map (λ x. (place_inside f x.0, x.1)) (find t ts f.under))) (find_row s (row k v a)))
    entry ih m c = cc (children-collection m (children (row k v a)) c, row_labelled s (row k v a), found ih (find_row s (row k v a)))

    go : ((u : Outline) → reach t ts (value u) ≡ FoundEntry (find t ts u)) → (m : LineMark) →
        reach s (t ∷ ts) (outline_node m (children (row k v a))) ≡ FoundEntry (bare_or m (Some (record { place = here; line = k; under = v; after = a }, s ∷ (t ∷ ts)))
        (option_and_then (λ f. in_head f.line.head (Some (f, t ∷ ts)) (option_map (λ x. (place_inside f x.0, x.1)) (find t ts f.under))) (find_row s (row k v a))))
    go ih Bare = refl
    go ih (Key j) = entry ih (Key j) tt
    go ih Dash = entry ih Dash tt

-- where steps are left, the line is a node itself, or has a head
abbrev pub HasHead : List Step → LineMark → Option Node → Type 0
HasHead [] m h = Unit {0}
HasHead (t ∷ ts) Bare h = Unit {0}
HasHead (t ∷ ts) (Key k) None = ⊥
HasHead (t ∷ ts) (Key k) (Some n) = Unit {0}
HasHead (t ∷ ts) Dash None = ⊥
HasHead (t ∷ ts) Dash (Some n) = Unit {0}

with_head : (t : Step) (ts : List Step) (m : LineMark) (n : Node) → HasHead (t ∷ ts) m (Some n)
with_head t ts m n = search rules

pub rest_head : (s : Step) (ss : List Step) (o : Outline) → If (find s ss o) (λ x. HasHead x.1 x.0.line.mark x.0.line.head)
rest_head s ss end = tt
rest_head s [] (row k v a) = search rules
rest_head s (t ∷ ts) (row k v a) = go (λ u. rest_head t ts u) k.mark refl (find_row s (row k v a))
  where
    bare : (m : LineMark) → m ≡ Bare → HasHead (s ∷ (t ∷ ts)) m k.head
    bare m h1 = search rules

    deep : (f : FoundLine) (h : Option Node) → f.line.head ≡ h → (q : Option (FoundLine × List Step)) → If q (λ x. HasHead x.1 x.0.line.mark x.0.line.head) →
        If (in_head h (Some (f, t ∷ ts)) (option_map (λ x. (place_inside f x.0, x.1)) q)) (λ x. HasHead x.1 x.0.line.mark x.0.line.head)
    deep f h h1 q h2 = search (rules, with_head)

    found : ((u : Outline) → If (find t ts u) (λ x. HasHead x.1 x.0.line.mark x.0.line.head)) → (r : Option FoundLine) →
        If (option_and_then (λ f. in_head f.line.head (Some (f, t ∷ ts)) (option_map (λ x. (place_inside f x.0, x.1)) (find t ts f.under))) r) (λ x. HasHead x.1 x.0.line.mark x.0.line.head)
    found h1 r = search rules

    go : ((u : Outline) → If (find t ts u) (λ x. HasHead x.1 x.0.line.mark x.0.line.head)) → (m : LineMark) → k.mark ≡ m → (r : Option FoundLine) →
        If (bare_or m (Some (record { place = here; line = k; under = v; after = a }, s ∷ (t ∷ ts)))
        (option_and_then (λ f. in_head f.line.head (Some (f, t ∷ ts)) (option_map (λ x. (place_inside f x.0, x.1)) (find t ts f.under))) r)) (λ x. HasHead x.1 x.0.line.mark x.0.line.head)
    go h1 m h2 r = search rules
