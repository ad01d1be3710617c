-- From a place by a step.
use Rattle.std.{proofs.Common.{◌≡◌, List, ◌∷◌, map, Some, refl, rules}, proofs.lemmas.Option.{none-some, same_Some}, specs.Prelude.ℤ}
use Rattle.yq_core.{specs.declared.kind.Kind.Kind, specs.Tree.{Node, children_of}, specs.Paths.child_at, specs.Shapes.IsTree}
use Rattle.yq_semantics.{specs.declared.refusal.Refusal.Refusal, specs.Judgement.{Judgement, and_then, gives}}
use Rattle.yq_semantics.specs.Matching.{ChildFound, step_child, in_scalar, key_step, index_step}
use Rattle.yq_semantics.specs.Program.{PathStep, key, index, each}
use Rattle.yq_semantics.{specs.Places.{FoundPlace, child_place, found_place, miss, all_steps, step_there, step_on}, specs.PlacesApart.IsIn}
use Rattle.yq_semantics.{proofs.JudgementLaws.{then_gives, gives_same}, proofs.GoodPlaces.{LeadsInto, LeadsSo}}
use Rattle.yq_semantics.proofs.ChildPlaces.{leads_none, leads_missing, leads_child, leads_children}
use Rattle.yq_core.specs.Paths as paths

-- what a step finds is a child
abbrev IsFound : Node → Judgement ChildFound → Type 0
IsFound n j = (x : ChildFound) → j ≡ gives x → (y : paths.Step × Node) → x ≡ Some y → child_at y.0 (children_of n) ≡ Some y.1

found_scalar : (why : Refusal) (kind : Kind) (n : Node) → IsFound n (in_scalar why kind)
found_scalar why kind n = search (rules, none-some, gives_same)

found_find : (s : paths.Step) (n : Node) → IsFound n (gives (step_child s (children_of n)))
found_find s n x e y is = search (rules, gives_same, none-some, same_Some)

found_index : (i : ℤ) (n : Node) → IsFound n (index_step i n)
found_index i n = search (rules, then_gives, found_find)

leads_found : (root : Node) (p : FoundPlace) (s : PathStep) (j : Judgement ChildFound) (qs : List FoundPlace) → IsTree p.node → IsIn root p → IsFound p.node j → and_then (λ x. gives (found_place s p x)) j ≡ gives qs → LeadsInto root p qs
leads_found root p s j qs tree at found h = search (rules, then_gives, gives_same, leads_missing, leads_child)

leads_all : (root : Node) (p : FoundPlace) (n : Node) → p.node ≡ n → IsTree p.node → IsIn root p → (qs : List FoundPlace) → and_then (λ xs. gives (map (child_place p) xs)) (all_steps n) ≡ gives qs → LeadsInto root p qs
leads_all root p n h1 h2 h3 qs h4 = search (rules, then_gives, gives_same, leads_none, leads_children)

leads_there : (root : Node) (s : PathStep) → LeadsSo root (step_there s)
leads_there root (key k) p qs tree at h = leads_found root p (key k) (key_step k p.node) qs tree at (search (rules, found_scalar, found_find)) h
leads_there root (index i) p qs tree at h = leads_found root p (index i) (index_step i p.node) qs tree at (found_index i p.node) h
leads_there root each p qs tree at h = leads_all root p p.node refl tree at qs h

-- what is so of the places to which a step leads where nothing is missing, and of one that is missed, is so of all
pub step_keeps : (R : List FoundPlace → Type 0) (s : PathStep) (p : FoundPlace) (qs : List FoundPlace) → (step_there s p ≡ gives qs → R qs) →
    ((m : PathStep) (ms : List PathStep) → p.missing ≡ m ∷ ms → R (miss s p)) → step_on s p ≡ gives qs → R qs
step_keeps R s p qs there missed h = search (rules, gives_same)

pub leads_step : (root : Node) (s : PathStep) → LeadsSo root (step_on s)
leads_step root s p qs tree at h = step_keeps (LeadsInto root p) s p qs (leads_there root s p qs tree at) (λ m ms is. leads_missing root p s tree at) h
