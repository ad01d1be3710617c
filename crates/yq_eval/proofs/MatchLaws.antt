-- Matches of a pipe in documents: the nodes of its places, one document more.
use Rattle.std.proofs.Common.{rules, ◌≡◌, ℕ, zero, suc, ◌+◌, ◌<◌, ◌≤◌, Bool, true, false, cond, List, [], ◌∷◌, ◌++◌, length, map, drop}
use Rattle.std.proofs.Common.{Option, Some, None, option_map, refl, sym, ap, ◌∙◌, subst, add-one, append-nil, arith}
use Rattle.std.{proofs.lemmas.List.drop_all, proofs.lemmas.Option.same_Some, specs.List.slice_get, specs.Prelude.ℤ}
use Rattle.yq_core.{specs.declared.kind.Kind.Kind, specs.Paths.{is_here, further, child_at}}
use Rattle.yq_core.specs.Tree.{Node, scalar, list, Children, none, child}
use Rattle.yq_documents.specs.Documents.{Document}
use Rattle.yq_semantics.{specs.Conditions.{node_there, value_of, condition_holds}, specs.Copies.{matches_in, matches_from}}
use Rattle.yq_semantics.specs.Judgement.{MatchFails, Judgement, and_then, gives, ExprError}
use Rattle.yq_semantics.specs.Matching.{ChildFound, step_child, in_scalar, key_step, item_number, index_step}
use Rattle.yq_semantics.specs.Pipes.{kept_place, select_on, stage_on, pipe_on, places}
use Rattle.yq_semantics.specs.Places.{FoundPlace, root_place, child_place, for_each, miss, found_place, stepped, all_steps, step_there}
use Rattle.yq_semantics.{specs.Places.{step_from, step_on, chained}, specs.Program.{PathStep, key, index, each, Stage, path, select}}
use Rattle.yq_semantics.{specs.declared.refusal.Refusal.Refusal, specs.declared.refusal.Refusal.TheVariants.{NotAMap, NotASequence}}
use Rattle.yq_semantics.proofs.JudgementLaws.{then_gives, gives_same}
use Rattle.yq_eval.{specs.PlaceView.put_after, specs.TreeScalars.{HasScalars, EachHasScalars, HaveScalars}}
use Rattle.yq_eval.proofs.EachLaws.{fails_then, put_both}
use Rattle.yq_core.specs.Paths as paths
use Rattle.yq_core.specs.Tree as tree

-- ---- the scalars of places

join_have : (ps qs : List FoundPlace) → HaveScalars ps → HaveScalars qs → HaveScalars (ps ++ qs)
join_have [] qs h k = k
join_have (p ∷ ps) qs h k = (h.0, join_have ps qs h.1 k)

-- what something leads to from a place whose node has such scalars has them, too
abbrev LeadsToScalars : (FoundPlace → Judgement (List FoundPlace)) → Type 0
LeadsToScalars f = (p : FoundPlace) (qs : List FoundPlace) → HasScalars p.node → f p ≡ gives qs → HaveScalars qs

each_have : (f : FoundPlace → Judgement (List FoundPlace)) → LeadsToScalars f → (ps qs : List FoundPlace) → HaveScalars ps → for_each f ps ≡ gives qs → HaveScalars qs
each_have f so [] qs h e = subst HaveScalars (gives_same e) tt
each_have f so (p ∷ ps) qs h e =
    let one = then_gives (λ first. and_then (λ others. gives (first ++ others)) (for_each f ps)) (f p) qs e in
    let two = then_gives (λ (others : List FoundPlace). gives (one.0 ++ others)) (for_each f ps) qs one.2 in
    subst HaveScalars (gives_same two.2) (join_have one.0 two.0 (so p one.0 h.0 one.1) (each_have f so ps two.0 h.1 two.1))

child_has : (s : paths.Step) (cs : Children) (n : Node) → EachHasScalars cs → child_at s cs ≡ Some n → HasScalars n
child_has s none n h e = absurd (cc)
child_has s (child label m cs) n h e = go (is_here s label) (child_has (further s) cs n h.1) e
  where
    go : (b : Bool) → (child_at (further s) cs ≡ Some n → HasScalars n) → cond b (Some m) (child_at (further s) cs) ≡ Some n → HasScalars n
    go true rest e = subst HasScalars (same_Some _ _ e) h.0
    go false rest e = rest e

-- what a step finds has such scalars
abbrev FindsScalars : Judgement ChildFound → Type 0
FindsScalars j = (x : paths.Step × Node) → j ≡ gives (Some x) → HasScalars x.1

find_has : (s : paths.Step) (cs : Children) → EachHasScalars cs → FindsScalars (gives (step_child s cs))
find_has s cs h x e = go (child_at s cs) refl (gives_same e)
  where
    go : (o : Option Node) → child_at s cs ≡ o → option_map (λ m. (s, m)) o ≡ Some x → HasScalars x.1
    go None at e = absurd (cc)
    go (Some m) at e = subst (λ (y : paths.Step × Node). HasScalars y.1) (same_Some _ _ e) (child_has s cs m h at)

scalar_finds : (why : Refusal) (kind : Kind) → FindsScalars (in_scalar why kind)
scalar_finds why kind x e = search rules

key_finds : (k : List ℕ) (n : Node) → HasScalars n → FindsScalars (key_step k n)
key_finds k (scalar anchor kind text) h x e = scalar_finds NotAMap kind x e
key_finds k (tree.map anchor cs) h x e = find_has (paths.To k) cs h x e
key_finds k _ h x e = absurd (cc)

index_finds : (i : ℤ) (n : Node) → HasScalars n → FindsScalars (index_step i n)
index_finds i (scalar anchor kind text) h x e = scalar_finds NotASequence kind x e
index_finds i (list anchor cs) h x e =
    let at = then_gives (λ (n : ℕ). gives (step_child (paths.Nth n) cs)) (item_number i cs) (Some x) e in find_has (paths.Nth at.0) cs h x at.2
index_finds i _ h x e = absurd (cc)

miss_has : (s : PathStep) (p : FoundPlace) → HasScalars p.node → HaveScalars (miss s p)
miss_has s p h = search rules

found_have : (s : PathStep) (p : FoundPlace) (j : Judgement ChildFound) (qs : List FoundPlace) → HasScalars p.node → FindsScalars j → and_then (λ x. gives (found_place s p x)) j ≡ gives qs → HaveScalars qs
found_have s p j qs h finds e =
    let x = then_gives (λ (x : ChildFound). gives (found_place s p x)) j qs e in
    subst HaveScalars (gives_same x.2) (go x.0 x.1)
  where
    go : (x : ChildFound) → j ≡ gives x → HaveScalars (found_place s p x)
    go None e = miss_has s p h
    go (Some y) e = (finds y e, tt)

children_have : (p : FoundPlace) (i : ℕ) (cs : Children) → EachHasScalars cs → HaveScalars (map (child_place p) (stepped i cs))
children_have p i none h = tt
children_have p i (child label n cs) h = (h.0, children_have p (suc i) cs h.1)

all_have : (p : FoundPlace) (n : Node) (qs : List FoundPlace) → HasScalars n → and_then (λ xs. gives (map (child_place p) xs)) (all_steps n) ≡ gives qs → HaveScalars qs
all_have p n qs h e = search (rules, then_gives, gives_same, children_have)

step_has : (s : PathStep) → LeadsToScalars (step_on s)
step_has s p qs h e = go p.missing e
  where
    there : (s : PathStep) → step_there s p ≡ gives qs → HaveScalars qs
    there (key k) e = found_have (key k) p (key_step k p.node) qs h (key_finds k p.node h) e
    there (index i) e = found_have (index i) p (index_step i p.node) qs h (index_finds i p.node h) e
    there each e = all_have p p.node qs h e

    go : (missing : List PathStep) → step_from missing s p ≡ gives qs → HaveScalars qs
    go [] e = there s e
    go (m ∷ ms) e = subst HaveScalars (gives_same e) (miss_has s p h)

chain_has : {S : Type 0} (f : S → List FoundPlace → Judgement (List FoundPlace)) →
    ((s : S) (ps qs : List FoundPlace) → HaveScalars ps → f s ps ≡ gives qs → HaveScalars qs) → (ss : List S) (ps qs : List FoundPlace) →
    HaveScalars ps → chained f ss ps ≡ gives qs → HaveScalars qs
chain_has f so [] ps qs h e = subst HaveScalars (gives_same e) h
chain_has f so (s ∷ ss) ps qs h e =
    let x = then_gives (chained f ss) (f s ps) qs e in chain_has f so ss x.0 qs (so s ps x.0 h x.1) x.2

kept_has : (doc : ℕ) (stage : Stage) (ps qs : List FoundPlace) → HaveScalars ps → stage_on doc stage ps ≡ gives qs → HaveScalars qs
kept_has doc (path steps) ps qs h e = chain_has (λ s. for_each (step_on s)) (λ s. each_have (step_on s) (step_has s)) steps ps qs h e
kept_has doc (select c) ps qs h e = each_have (select_on doc c) leads ps qs h e
  where
    leads : LeadsToScalars (select_on doc c)
    leads p qs h e =
        let x = then_gives (λ (b : Bool). gives (kept_place p b)) (condition_holds doc c p) qs e in subst HaveScalars (gives_same x.2) (go x.0)
      where
        go : (b : Bool) → HaveScalars (kept_place p b)
        go true = (h, tt)
        go false = tt

-- the nodes to which a pipe leads from such places have such scalars
pub pipe_have : (doc : ℕ) (pipe : List Stage) (ps qs : List FoundPlace) → HaveScalars ps → pipe_on doc pipe ps ≡ gives qs → HaveScalars qs
pipe_have doc pipe ps qs h e = chain_has (stage_on doc) (kept_has doc) pipe ps qs h e

-- so have those to which it leads from a root
pub places_have : (doc : ℕ) (pipe : List Stage) (root : Node) (qs : List FoundPlace) → HasScalars root → places doc pipe root ≡ gives qs → HaveScalars qs
places_have doc pipe root qs h e = pipe_have doc pipe (root_place root ∷ []) qs (h, tt) e

-- so has what is copied
pub value_has : (p : FoundPlace) → HasScalars p.node → HasScalars (value_of p)
value_has p h = go p.missing
  where
    go : (missing : List PathStep) → HasScalars (node_there missing p.node)
    go [] = h
    go (s ∷ ss) = refl

-- ---- one document more

-- a document of several, by its number
pub document_there : (docs : List Document) (i : ℕ) → i < length docs → (d : Document) × (slice_get docs i ≡ Some d) × (drop i docs ≡ d ∷ drop (suc i) docs)
document_there [] i h = absurd (omega arith)
document_there (d ∷ ds) zero h = (d, refl, refl)
document_there (d ∷ ds) (suc i) h = document_there ds i (omega arith)

-- what is found in the documents from one on, that one being known
after_document : (pipe : List Stage) (docs : List Document) (i : ℕ) (d : Document) (before : List (ℕ × Node)) → drop i docs ≡ d ∷ drop (suc i) docs →
    put_after before (matches_from i pipe (drop i docs)) ≡ and_then (λ ys. put_after ys (matches_from (i + 1) pipe (drop (i + 1) docs))) (put_after before (matches_in i pipe d.root))
after_document pipe docs i d before at =
    ap (λ ds. put_after before (matches_from i pipe ds)) at
    ∙ (put_both before (matches_in i pipe d.root) (matches_from (suc i) pipe (drop (suc i) docs))
    ∙ ap (λ (n : ℕ). and_then (λ ys. put_after ys (matches_from n pipe (drop n docs))) (put_after before (matches_in i pipe d.root))) (sym (add-one i)))

pub document_more : (pipe : List Stage) (docs : List Document) (i : ℕ) (d : Document) (before after : List (ℕ × Node)) (all : Judgement (List (ℕ × Node))) → drop i docs ≡ d ∷ drop (suc i) docs →
    put_after before (matches_in i pipe d.root) ≡ gives after → put_after before (matches_from i pipe (drop i docs)) ≡ all → put_after after (matches_from (i + 1) pipe (drop (i + 1) docs)) ≡ all
document_more pipe docs i d before after all at h so_far = search (rules, after_document)

pub document_fails : (pipe : List Stage) (docs : List Document) (i : ℕ) (d : Document) (before : List (ℕ × Node)) (all : Judgement (List (ℕ × Node))) (e : ExprError) → drop i docs ≡ d ∷ drop (suc i) docs →
    MatchFails e (put_after before (matches_in i pipe d.root)) → put_after before (matches_from i pipe (drop i docs)) ≡ all → MatchFails e all
document_fails pipe docs i d before all e at h so_far =
    subst (MatchFails e) (sym (after_document pipe docs i d before at) ∙ so_far)
    (fails_then (λ ys. put_after ys (matches_from (i + 1) pipe (drop (i + 1) docs))) (put_after before (matches_in i pipe d.root)) e h)

-- after the last document nothing more is found
pub documents_done : (pipe : List Stage) (docs : List Document) (i : ℕ) (before : List (ℕ × Node)) (all : Judgement (List (ℕ × Node))) → length docs ≤ i → put_after before (matches_from i pipe (drop i docs)) ≡ all → all ≡ gives before
documents_done pipe docs i before all h so_far = search (rules, drop_all, append-nil)
