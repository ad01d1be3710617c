-- Anchors that aliases name, node by node.
use Rattle.std.proofs.Common.{rules, ◌≡◌, ℕ, Bool, true, false, ◌||◌, cond, List, [], ◌∷◌, length, Option, Some, None, refl, sym, ap, ◌∙◌}
use Rattle.std.{proofs.lemmas.Bool.false≢true, proofs.lemmas.List.Folds.list_any-append, specs.List.list_any}
use Rattle.yq_core.{specs.Paths.{Step, To, child_at, node_at}, specs.Tree.{Label, Node, alias, Children, child, children_of, anchor_of}}
use Rattle.yq_core.specs.Anchors.{Name, Anchors, Refers, names_of, names_in}
use Rattle.yq_outline.specs.Names.{is_reference}
use Rattle.yq_nodes.specs.Nodes.{kind_of, text_of}
use Rattle.yq_semantics.specs.Changes.{Addition, appends, overwrites, Change, replaces, adds, removes, sets_comment, allowed, is_too_deep}
use Rattle.yq_semantics.specs.Changes.{is_too_long, refers_to, is_used, is_used_inside, is_used_in, overwrites_used, takes_used}
use Rattle.yq_semantics.{specs.Judgement.{gives, refuses}, specs.declared.refusal.Refusal.TheVariants.AnchorInUse}
use Rattle.yq_semantics.proofs.ChildPlaces.{node_further}
use Rattle.yq_planner.specs.TakenNames.{is_used_anchor, overwrites_at, takes_at}
use Rattle.yq_nodes.specs.declared.nodes.node.NodeKind.TheVariants as kinds

-- ---- anchors of a node

-- an anchor of a node is its own, or one inside
pub used_parts : (names : List Name) (n : Node) → (is_used_anchor names (anchor_of n) || list_any (is_used names) (names_in (children_of n))) ≡ list_any (is_used names) (names_of n)
used_parts names n = search rules

-- without aliases none has a name
pub none_refer : (ns : List Name) (k : List ℕ) → list_any is_reference ns ≡ false → list_any (refers_to k) ns ≡ false
none_refer [] k h = refl
none_refer (Anchors a ∷ ns) k h = none_refer ns k h
none_refer (Refers a ∷ ns) k h = absurd (false≢true (sym h))

-- without aliases no anchor is used
pub none_used : (names ns : List Name) → ((k : List ℕ) → list_any (refers_to k) names ≡ false) → list_any (is_used names) ns ≡ false
none_used names [] h = refl
none_used names (Anchors a ∷ ns) h = ap (λ b. b || list_any (is_used names) ns) (h a) ∙ none_used names ns h
none_used names (Refers a ∷ ns) h = none_used names ns h

-- one item or entry more, in which none is used
pub used_more : (names : List Name) (cs rest : Children) (label : Label) (n : Node) (all : Bool) → cs ≡ child label n rest → list_any (is_used names) (names_of n) ≡ false →
    list_any (is_used names) (names_in cs) ≡ all → list_any (is_used names) (names_in rest) ≡ all
used_more names cs rest label n all is unused so_far = search (rules, list_any-append)

-- one in which some anchor is used
pub used_here : (names : List Name) (cs rest : Children) (label : Label) (n : Node) (all : Bool) → cs ≡ child label n rest → list_any (is_used names) (names_of n) ≡ true →
    list_any (is_used names) (names_in cs) ≡ all → true ≡ all
used_here names cs rest label n all is used so_far = search (rules, list_any-append)

-- one item or entry more, the aliases in which are counted in already
pub named_more : (p : Name → Bool) (cs rest : Children) (label : Label) (n : Node) (old new all : Bool) → cs ≡ child label n rest → new ≡ (old || list_any p (names_of n)) →
    (old || list_any p (names_in cs)) ≡ all → (new || list_any p (names_in rest)) ≡ all
named_more p cs rest label n old new all is more so_far = search (rules, list_any-append)

-- ---- what a change takes

-- by the node at a path
overwrites_there : (root n : Node) (x : List Step) (a : Addition) → node_at x root ≡ Some n → overwrites_used root x a ≡ overwrites_at (names_of root) (children_of n) a
overwrites_there root n x a h = search (rules, node_further)

all_there : (root n : Node) (x : List Step) (bs : List Addition) → node_at x root ≡ Some n → list_any (overwrites_used root x) bs ≡ list_any (overwrites_at (names_of root) (children_of n)) bs
all_there root n x [] h = refl
all_there root n x (a ∷ bs) h = λ i. overwrites_there root n x a h i || all_there root n x bs h i

pub takes_there : (root n : Node) (x : List Step) (c : Change) → node_at x root ≡ Some n → takes_used root x c ≡ takes_at (names_of root) n c
takes_there root n x (replaces v) h = ap (is_used_inside (names_of root)) h
takes_there root n x (adds bs) h = all_there root n x bs h
takes_there root n x removes h = ap (is_used_in (names_of root)) h
takes_there root n x (sets_comment place text) h = refl

-- an alias by its name
pub alias_is : (n : Node) → kinds.Alias ≡ kind_of n → n ≡ alias (text_of n)
alias_is n is = search rules

-- without aliases nothing is taken
pub none_taken : (names : List Name) (n : Node) (c : Change) → ((k : List ℕ) → list_any (refers_to k) names ≡ false) → false ≡ takes_at names n c
none_taken names n (replaces v) h = sym (none_used names (names_in (children_of n)) h)
none_taken names n (adds bs) h = go bs
  where
    none_at : (o : Option Node) → false ≡ is_used_inside names o
    none_at None = refl
    none_at (Some m) = sym (none_used names (names_in (children_of m)) h)

    one : (a : Addition) → false ≡ overwrites_at names (children_of n) a
    one (appends k v) = refl
    one (overwrites k v) = none_at (child_at (To k) (children_of n))

    go : (bs : List Addition) → false ≡ list_any (overwrites_at names (children_of n)) bs
    go [] = refl
    go (a ∷ bs) = λ i. one a i || go bs i
none_taken names n removes h = sym (none_used names (names_of n) h)
none_taken names n (sets_comment place text) h = refl

-- ---- what refuses a change

-- where it is short and shallow enough, an anchor may
pub allowed_by : (root n : Node) (x : List Step) (c : Change) (b : Bool) → is_too_long c ≡ false → is_too_deep (length x) c ≡ false → b ≡ takes_at (names_of root) n c → node_at x root ≡ Some n →
    allowed root (x, c) ≡ cond b (refuses AnchorInUse) (gives (x, c))
allowed_by root n x c b long deep taken at = search (rules, takes_there)

-- an anchor of its own is used
pub used_own : (names : List Name) (n : Node) (b : Bool) → b ≡ is_used_anchor names (anchor_of n) → b ≡ true → b ≡ list_any (is_used names) (names_of n)
used_own names n b own used = used ∙ (ap (λ c. c || list_any (is_used names) (names_in (children_of n))) (sym used ∙ own) ∙ used_parts names n)

-- or one inside
pub used_inside : (names : List Name) (n : Node) (b : Bool) → is_used_anchor names (anchor_of n) ≡ false → b ≡ list_any (is_used names) (names_in (children_of n)) → b ≡ list_any (is_used names) (names_of n)
used_inside names n b unnamed inside = inside ∙ (ap (λ c. c || list_any (is_used names) (names_in (children_of n))) (sym unnamed) ∙ used_parts names n)
