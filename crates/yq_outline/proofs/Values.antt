-- What exchanging the lines in a place does to the tree.
use Rattle.std.proofs.Common.{◌≡◌, ℕ, ◌≤◌, List, [], ◌∷◌, Option, Some, None, option_map, option_and_then, Bool, cond, refl, sym, ap, ◌∙◌}
use Rattle.std.proofs.Common.{subst, arith, rules}
use Rattle.yq_core.{specs.Tree.{Node, Children, child}, specs.Paths.{Step, is_here, further, change_child, within, changed_at}}
use Rattle.yq_outline.specs.Outline.{LineMark, Bare, rank, Line, level, Outline, end, row, anchored, label, outline_node, shaped, children}
use Rattle.yq_outline.specs.Outline.{value}
use Rattle.yq_outline.specs.Places.{here, plug, FoundLine, next_to, find_row, place_inside, bare_or, in_head, find, content_under}
use Rattle.yq_outline.{proofs.Allowing.{IsEntry, IsCollection}, proofs.Plug.plug-compose}

abbrev pub If : {A : Type 0} → Option A → (A → Type 0) → Type 0
If None P = Unit {0}
If (Some x) P = P x

pub rank_small : (m : LineMark) → (1 ≤ rank m) × (rank m ≤ 3)
rank_small m = search rules

pub same_rank : (l k : Line) → level l ≡ level k → rank l.mark ≡ rank k.mark
unfolding level
same_rank l k e = omega (arith, rank_small l.mark, rank_small k.mark)

pub same_collection : (m k : LineMark) (cs : Children) → rank m ≡ rank k → outline_node m cs ≡ outline_node k cs
same_collection m k cs h1 = search rules

pub same_entry : (i j : LineMark) → IsEntry i → rank i ≡ rank j → IsEntry j
same_entry i j h1 h2 = search rules

-- the node with its line and what is under it exchanged
row_change : (s : Step) (h : Node → Node) (o : Outline) →
    If (find_row s o) (λ f. (l : Line) (u : Outline) → label l ≡ label f.line → content_under l u ≡ h (content_under f.line f.under) →
    children (plug f.place (row l u f.after)) ≡ change_child s h (children o))
row_change s h end = tt
row_change s h (row k v a) = go (is_here s (label k)) (find_row (further s) a) (row_change (further s) h a)
  where
    go : (b : Bool) (r : Option FoundLine) →
        If r (λ f. (l : Line) (u : Outline) → label l ≡ label f.line → content_under l u ≡ h (content_under f.line f.under) →
        children (plug f.place (row l u f.after)) ≡ change_child (further s) h (children a)) →
        If (cond b (Some (record { place = here; line = k; under = v; after = a })) (option_map (next_to k v) r)) (λ f. (l : Line) (u : Outline) → label l ≡ label f.line → content_under l u ≡ h (content_under f.line f.under) →
        children (plug f.place (row l u f.after)) ≡ cond b (child (label k) (h (content_under k v)) (children a)) (child (label k) (content_under k v) (change_child (further s) h (children a))))
    go b r h1 = search rules

pub row_shape : (s : Step) (o : Outline) →
    If (find_row s o) (λ f. (l : Line) (u : Outline) (cs : Children) → level l ≡ level f.line → shaped (plug f.place (row l u f.after)) cs ≡ shaped o cs)
row_shape s o = search (rules, same_collection, same_rank)

pub within-shaped : (o : Outline) (g : Children → Children) (cs : Children) → IsCollection o → shaped o (g cs) ≡ within g (shaped o cs)
within-shaped o g cs h1 = search rules

abbrev pub RowChanges : Step → Outline → FoundLine → Type 0
RowChanges s o f =
    (h : Node → Node) (l : Line) (u : Outline) → label l ≡ label f.line → level l ≡ level f.line → content_under l u ≡ h (content_under f.line f.under) →
    value (plug f.place (row l u f.after)) ≡ within (change_child s h) (value o)

-- one step
pub row_value : (s : Step) (o : Outline) → IsCollection o → If (find_row s o) (RowChanges s o)
row_value s o c = go (find_row s o) (λ h. row_change s h o) (row_shape s o)
  where
    go : (r : Option FoundLine) →
        ((h : Node → Node) → If r (λ f. (l : Line) (u : Outline) → label l ≡ label f.line → content_under l u ≡ h (content_under f.line f.under) →
        children (plug f.place (row l u f.after)) ≡ change_child s h (children o))) →
        If r (λ f. (l : Line) (u : Outline) (cs : Children) → level l ≡ level f.line → shaped (plug f.place (row l u f.after)) cs ≡ shaped o cs) →
        If r (RowChanges s o)
    go None p q = tt
    go (Some f) p q = λ h l u same lev new. ap (shaped (plug f.place (row l u f.after))) (p h l u same new) ∙ (q l u (change_child s h (children o)) lev ∙ within-shaped o (change_child s h) (children o) c)

pub anchored-within : (a : Option (List ℕ)) (g : Children → Children) (n : Node) → anchored a (within g n) ≡ within g (anchored a n)
anchored-within a g n = search rules

abbrev pub PathChanges : Step → List Step → Outline → (FoundLine × List Step) → Type 0
PathChanges s ss o x =
    (g : Node → Node) (l : Line) (u : Outline) → label l ≡ label x.0.line → level l ≡ level x.0.line → content_under l u ≡ changed_at x.1 g (content_under x.0.line x.0.under) →
    value (plug x.0.place (row l u x.0.after)) ≡ changed_at (s ∷ ss) g (value o)

bare_value : (s : Step) (ss : List Step) (k : Line) (v a : Outline) → k.mark ≡ Bare → PathChanges s ss (row k v a) (record { place = here; line = k; under = v; after = a }, s ∷ ss)
bare_value s ss k v a e g l u same lev new = search (rules, same_rank, same_collection)

-- the step into what is under a line
deep_value : (s t : Step) (ts : List Step) (o : Outline) (f : FoundLine) (h : Option Node) → f.line.head ≡ h → RowChanges s o f →
    If (find t ts f.under) (PathChanges t ts f.under) →
    If (in_head h (Some (f, t ∷ ts)) (option_map (λ x. (place_inside f x.0, x.1)) (find t ts f.under))) (PathChanges s (t ∷ ts) o)
deep_value s t ts o f (Some n) e r ih = λ g l u same lev new. r (changed_at (t ∷ ts) g) l u same lev new
deep_value s t ts o f None e r ih = go (find t ts f.under) ih
  where
    go : (q : Option (FoundLine × List Step)) → If q (PathChanges t ts f.under) → If (option_map (λ x. (place_inside f x.0, x.1)) q) (PathChanges s (t ∷ ts) o)
    go None h = tt
    go (Some x) h = λ g l u same lev new.
        let below_value : value (plug x.0.place (row l u x.0.after)) ≡ changed_at (t ∷ ts) g (value f.under) = h g l u same lev new in
        search (rules, anchored-within, plug-compose, below_value)

pub path_value : (s : Step) (ss : List Step) (o : Outline) → If (find s ss o) (PathChanges s ss o)
path_value s ss end = tt
path_value s [] (row k v a) = go k.mark refl (find_row s (row k v a)) (row_value s (row k v a))
  where
    found : (r : Option FoundLine) → If r (RowChanges s (row k v a)) → If (option_map (λ f. (f, [])) r) (PathChanges s [] (row k v a))
    found r h1 = search rules

    go : (m : LineMark) → k.mark ≡ m → (r : Option FoundLine) → (IsCollection (row k v a) → If r (RowChanges s (row k v a))) →
        If (bare_or m (Some (record { place = here; line = k; under = v; after = a }, s ∷ [])) (option_map (λ f. (f, [])) r)) (PathChanges s [] (row k v a))
    go Bare e r h = bare_value s [] k v a e
    go x e r h = found r (h (subst IsEntry (sym e) tt))
path_value s (t ∷ ts) (row k v a) = go (λ u. path_value t ts u) k.mark refl (find_row s (row k v a)) (row_value s (row k v a))
  where
    found : ((u : Outline) → If (find t ts u) (PathChanges t ts u)) → (r : Option FoundLine) → If r (RowChanges s (row k v a)) →
        If (option_and_then (λ f. in_head f.line.head (Some (f, t ∷ ts)) (option_map (λ x. (place_inside f x.0, x.1)) (find t ts f.under))) r) (PathChanges s (t ∷ ts) (row k v a))
    found h1 r h2 = search (rules, deep_value)

    go : ((u : Outline) → If (find t ts u) (PathChanges t ts u)) → (m : LineMark) → k.mark ≡ m → (r : Option FoundLine) → (IsCollection (row k v a) → If r (RowChanges s (row k v a))) →
        If (bare_or m (Some (record { place = here; line = k; under = v; after = a }, s ∷ (t ∷ ts)))
        (option_and_then (λ f. in_head f.line.head (Some (f, t ∷ ts)) (option_map (λ x. (place_inside f x.0, x.1)) (find t ts f.under))) r)) (PathChanges s (t ∷ ts) (row k v a))
    go ih Bare e r h = bare_value s (t ∷ ts) k v a e
    go ih x e r h = found ih r (h (subst IsEntry (sym e) tt))
