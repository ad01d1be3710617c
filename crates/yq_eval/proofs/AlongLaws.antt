-- The value to which steps lead one by one is that of the only place to which they lead.
use Rattle.std.proofs.Common.{◌≡◌, ℕ, Bool, List, [], ◌∷◌, ◌++◌, refl, Option, Some, None, IfSome, ap, ◌∙◌}
use Rattle.yq_core.{specs.declared.kind.Kind.Kind, specs.Tree.Node}
use Rattle.yq_semantics.{specs.Conditions.{first_equals, is_scalar, node_there, value_of}, specs.Judgement.{Judgement, and_then, gives}}
use Rattle.yq_semantics.{specs.Matching.{ChildFound, index_step, key_step}, specs.Program.{PathStep, key, index, each}}
use Rattle.yq_semantics.specs.Places.{FoundPlace, child_place, found_place, further_place, miss, step_from, step_on, traverse}
use Rattle.yq_semantics.proofs.JudgementLaws.{gives_same, then_gives}
use Rattle.yq_eval.{specs.ConditionAnswers.unless_alias, specs.ValuesAlong.{child_or_null, leads_to_value, leads_to_values}}
use Rattle.yq_eval.proofs.PlaceLaws.{null_there}

-- the only place is one that has this value
abbrev OnlyPlace : Judgement (List FoundPlace) → Node → Type 0
OnlyPlace j n = (q : FoundPlace) × (j ≡ gives (q ∷ [])) × (value_of q ≡ n)

-- what a step finds in a place's node
found_one : (s : PathStep) (p : FoundPlace) (j : Judgement ChildFound) (x : ChildFound) (n : Node) → miss s p ≡ further_place s p ∷ [] → j ≡ gives x → child_or_null x ≡ n →
    OnlyPlace (and_then (λ x. gives (found_place s p x)) j) n
found_one s p j None n missed at is =
    (further_place s p, ap (and_then (λ x. gives (found_place s p x))) at ∙ ap gives missed, null_there p.missing s p.node ∙ is)
found_one s p j (Some y) n missed at is = (child_place p y, ap (and_then (λ x. gives (found_place s p x))) at, is)

step_one : (s : PathStep) (p : FoundPlace) (n : Node) → leads_to_value s (value_of p) ≡ gives n → OnlyPlace (step_on s p) n
step_one s p n h = go s p.missing h
  where
    go : (s : PathStep) (missing : List PathStep) → leads_to_value s (node_there missing p.node) ≡ gives n → OnlyPlace (step_from missing s p) n
    go (key k) [] h = let x = then_gives (λ x. gives (child_or_null x)) (key_step k p.node) n h in found_one (key k) p (key_step k p.node) x.0 n refl x.1 (gives_same x.2)
    go (index i) [] h = let x = then_gives (λ x. gives (child_or_null x)) (index_step i p.node) n h in found_one (index i) p (index_step i p.node) x.0 n refl x.1 (gives_same x.2)
    go (key k) (m ∷ ms) h = (further_place (key k) p, refl, null_there p.missing (key k) p.node ∙ gives_same h)
    go (index i) (m ∷ ms) h = (further_place (index i) p, refl, null_there p.missing (index i) p.node ∙ gives_same h)
    go each missing h = absurd (cc)

-- the value of the first place to which steps lead
first_along : (steps : List PathStep) (kind : Kind) (text : List ℕ) (p : FoundPlace) (v : Node) → leads_to_values steps (value_of p) ≡ gives v → and_then (first_equals kind text) (traverse steps (p ∷ [])) ≡ is_scalar kind text v
first_along [] kind text p v h = ap (is_scalar kind text) (gives_same h)
first_along (s ∷ ss) kind text p v h =
    let x = then_gives (leads_to_values ss) (leads_to_value s (value_of p)) v h in
    let q = step_one s p x.0 x.1 in
    ap (λ j. and_then (first_equals kind text) (and_then (traverse ss) (and_then (λ first. and_then (λ others. gives (first ++ others)) (gives [])) j))) q.1
    ∙ first_along ss kind text q.0 v (ap (leads_to_values ss) q.2 ∙ x.2)

-- whether it is a scalar, if that is known
pub known_along : (steps : List PathStep) (kind : Kind) (text : List ℕ) (p : FoundPlace) (v : Node) (r : Option Bool) → leads_to_values steps (value_of p) ≡ gives v →
    is_scalar kind text v ≡ unless_alias r → IfSome r (λ b. and_then (first_equals kind text) (traverse steps (p ∷ [])) ≡ gives b)
known_along steps kind text p v None h is = tt
known_along steps kind text p v (Some b) h is = first_along steps kind text p v h ∙ is
