-- Of the places to which a pipe leads, none but the first one is at the first item or entry of the root.
use Rattle.std.proofs.Common.{◌≡◌, ◌≢◌, ℕ, ◌⊎◌, List, [], ◌∷◌, ◌++◌, map, refl, sym, ap, subst, ◌∙◌, inl, inr, rules}
use Rattle.std.proofs.lemmas.Option.{same_Some}
use Rattle.yq_core.{specs.Tree.{Label, Node, alias, scalar, list, Children, none, child, children_of}, specs.Paths.node_at}
use Rattle.yq_core.{specs.PathOrder.Before, specs.Shapes.{AreItems, AreEntries, IsTree}}
use Rattle.yq_semantics.{specs.Judgement.{Judgement, and_then, gives}, specs.Matching.ChildFound}
use Rattle.yq_semantics.{specs.Program.{PathStep, Condition, Stage}, specs.NodeEdits.step_to, specs.Pipes.{select_on, places}}
use Rattle.yq_semantics.specs.Places.{FoundPlace, root_place, child_place, for_each, miss, found_place, stepped, all_steps, step_on}
use Rattle.yq_semantics.{specs.PlacesApart.{IsBeforeAll, IsIn}, proofs.JudgementLaws.{then_gives, gives_same}, proofs.PathLaws.parts_differ}
use Rattle.yq_semantics.proofs.GoodPlaces.{LieIn, AreSound, LeadsSo, AreGood, each_good}
use Rattle.yq_semantics.proofs.ChildPlaces.{StepsBefore, StepsApart, items_apart, entries_apart}
use Rattle.yq_semantics.proofs.updates.StepPlaces.{leads_step, step_keeps}
use Rattle.yq_semantics.proofs.updates.PipePlaces.{leads_select, pipe_keeps, select_keeps}
use Rattle.yq_semantics.proofs.updates.Each.{Each, each_given, each_join, joined_gives}
use Rattle.yq_core.specs.Tree as tree
use Rattle.yq_core.specs.Paths as paths

-- the step to the first item or entry of a root
abbrev pub IsFirstStep : Node → paths.Step → Type 0
IsFirstStep root s = (label : Label) × (n : Node) × (cs : Children) × (children_of root ≡ child label n cs) × (step_to 0 label ≡ s)

-- none of these places is at the path of that one step
abbrev pub NoPlaceAt : paths.Step → List FoundPlace → Type 0
NoPlaceAt s ps = Each (λ (p : FoundPlace). p.path ≢ s ∷ []) ps

-- none but perhaps the first
abbrev pub NoPlaceLater : paths.Step → List FoundPlace → Type 0
NoPlaceLater s [] = Unit {0}
NoPlaceLater s (p ∷ ps) = NoPlaceAt s ps

later_join : (s : paths.Step) (ps qs : List FoundPlace) → NoPlaceLater s ps → NoPlaceAt s qs → NoPlaceLater s (ps ++ qs)
later_join s ps qs h1 h2 = search (rules, each_join)

no_nil : (p : List paths.Step) (t : paths.Step) → p ++ t ∷ [] ≡ [] → ⊥
no_nil [] t e = cc
no_nil (s ∷ p) t e = cc

front_nil : (p r : List paths.Step) → p ++ r ≡ [] → p ≡ []
front_nil [] r e = refl
front_nil (s ∷ p) r e = absurd (cc)

-- what lies below a place that isn't there, and isn't the root, isn't there
lying_other : (s : paths.Step) (x p : List paths.Step) (r : List paths.Step) → Before x p → p ≢ s ∷ [] → p ++ r ≢ s ∷ []
lying_other s (y ∷ x) (t ∷ p) r b d e = search (rules, front_nil)
lying_other s _ _ r b d e = b

lying_none : (s : paths.Step) (x p : List paths.Step) (qs : List FoundPlace) → Before x p → p ≢ s ∷ [] → LieIn p qs → NoPlaceAt s qs
lying_none s x p [] b d l = tt
lying_none s x p (q ∷ qs) b d l = ((λ e. lying_other s x p l.0.0 b d (sym l.0.1 ∙ e)), lying_none s x p qs b d l.1)

abbrev LeadsFirst : Node → paths.Step → (FoundPlace → Judgement (List FoundPlace)) → Type 0
LeadsFirst root s f = (p : FoundPlace) (qs : List FoundPlace) → IsTree p.node → IsIn root p → f p ≡ gives qs → NoPlaceLater s qs

each_at_none : (root : Node) (f : FoundPlace → Judgement (List FoundPlace)) → LeadsSo root f → (s : paths.Step) (x : List paths.Step) (ps qs : List FoundPlace) → IsBeforeAll x ps → AreSound root ps → NoPlaceAt s ps →
    for_each f ps ≡ gives qs → NoPlaceAt s qs
each_at_none root f so s x ps qs b t n h =
    each_given (λ rs. IsBeforeAll x rs × AreSound root rs × NoPlaceAt s rs) (λ (p : FoundPlace). p.path ≢ s ∷ []) f
    (λ p more r. ((λ rs e. lying_none s x p.path rs r.0.0 r.2.0 (so p rs r.1.0.0 r.1.0.1 e).inside), (r.0.1, r.1.1, r.2.1))) ps qs (b, t, n) h

each_first : (root : Node) (f : FoundPlace → Judgement (List FoundPlace)) → LeadsSo root f → (s : paths.Step) → LeadsFirst root s f →
    (ps qs : List FoundPlace) → AreGood root ps → NoPlaceLater s ps → for_each f ps ≡ gives qs → NoPlaceLater s qs
each_first root f h1 s h2 ps qs h3 h4 h5 = search (rules, gives_same, joined_gives, later_join, each_at_none)

-- of the children of the root, the first one is first
root_children : (s : paths.Step) (p : FoundPlace) (xs : List (paths.Step × Node)) → p.path ≡ [] → StepsBefore s xs → NoPlaceAt s (map (child_place p) xs)
root_children s p [] is h = tt
root_children s p (x ∷ xs) is h = search (rules, parts_differ, root_children s p xs is h.1)

-- of those of another node none is there
other_children : (s t : paths.Step) (r : List paths.Step) (p : FoundPlace) (xs : List (paths.Step × Node)) → p.path ≡ t ∷ r → NoPlaceAt s (map (child_place p) xs)
other_children s t r p [] is = tt
other_children s t r p (x ∷ xs) is = search (rules, no_nil, other_children s t r p xs is)

first_children : (root : Node) (s : paths.Step) → IsFirstStep root s → (p : FoundPlace) → IsIn root p → (cs : Children) → children_of p.node ≡ cs → AreItems cs ⊎ AreEntries cs → NoPlaceLater s (map (child_place p) (stepped 0 cs))
first_children root s first p at none is kind = tt
first_children root s first p at (child label n cs) is kind = go p.path refl
  where
    apart : AreItems (child label n cs) ⊎ AreEntries (child label n cs) → StepsApart (stepped 0 (child label n cs))
    apart (inl h) = items_apart 0 (child label n cs) h
    apart (inr h) = entries_apart 0 (child label n cs) h

    label_same : (l k : Label) (m o : Node) (ds es : Children) → child l m ds ≡ child k o es → l ≡ k
    label_same l k m o ds es e = cc

    go : (x : List paths.Step) → p.path ≡ x → NoPlaceAt s (map (child_place p) (stepped 1 cs))
    go [] top =
        let root_is : root ≡ p.node = same_Some _ _ (ap (λ (x : List paths.Step). node_at x root) (sym top) ∙ at) in
        let same : first.0 ≡ label = label_same first.0 label first.1 n first.2 cs (sym first.3 ∙ (ap children_of root_is ∙ is)) in
        let step : step_to 0 label ≡ s = ap (step_to 0) (sym same) ∙ first.4 in
        root_children s p (stepped 1 cs) top (subst (λ (t : paths.Step). StepsBefore t (stepped 1 cs)) step (apart kind).0)
    go (t ∷ r) top = other_children s t r p (stepped 1 cs) top

miss_later : (s : paths.Step) (step : PathStep) (p : FoundPlace) → NoPlaceLater s (miss step p)
miss_later s step p = search rules

found_later : (s : paths.Step) (step : PathStep) (p : FoundPlace) (j : Judgement ChildFound) (qs : List FoundPlace) → and_then (λ x. gives (found_place step p x)) j ≡ gives qs → NoPlaceLater s qs
found_later s step p j qs h = search (rules, then_gives, gives_same, miss_later)

all_later : (root : Node) (s : paths.Step) → IsFirstStep root s → (p : FoundPlace) (n : Node) → p.node ≡ n → IsTree p.node → IsIn root p → (qs : List FoundPlace) → and_then (λ xs. gives (map (child_place p) xs))
    (all_steps n) ≡ gives qs → NoPlaceLater s qs
all_later root s first p (alias name) is tree at qs h = absurd (cc)
all_later root s first p (scalar anchor kind text) is tree at qs h = search (rules, then_gives, gives_same, first_children)
all_later root s first p (list anchor cs) is tree at qs h =
    subst (NoPlaceLater s) (gives_same h) (first_children root s first p at cs (ap children_of is) (inl (subst IsTree is tree).0))
all_later root s first p (tree.map anchor cs) is tree at qs h =
    subst (NoPlaceLater s) (gives_same h) (first_children root s first p at cs (ap children_of is) (inr (subst IsTree is tree).0))

step_first : (root : Node) (s : paths.Step) → IsFirstStep root s → (step : PathStep) → LeadsFirst root s (step_on step)
step_first root s first step p qs tree at h = search (rules, step_keeps, miss_later, found_later, all_later)

select_first : (root : Node) (s : paths.Step) (doc : ℕ) (c : Condition) → LeadsFirst root s (select_on doc c)
select_first root s doc c p qs tree at h = select_keeps (NoPlaceLater s) doc c p qs tt tt h

-- the first item or entry of the root comes first
pub places_first : (doc : ℕ) (pipe : List Stage) (root : Node) (ps : List FoundPlace) (s : paths.Step) → IsTree root → IsFirstStep root s → places doc pipe root ≡ gives ps → NoPlaceLater s ps
places_first doc pipe root ps s tree first h =
    (pipe_keeps doc (λ qs. AreGood root qs × NoPlaceLater s qs)
    (λ t from to g e. (each_good root (step_on t) (leads_step root t) from to g.0 e, each_first root (step_on t) (leads_step root t) s (step_first root s first t) from to g.0 g.1 e))
    (λ c from to g e. (each_good root (select_on doc c) (leads_select root doc c) from to g.0 e, each_first root (select_on doc c) (leads_select root doc c) s (select_first root s doc c) from to g.0 g.1 e))
    pipe (root_place root ∷ []) ps (record { apart = (tt, tt); sound = ((tree, refl), tt) }, tt) h).1
