-- Where a step leads from a place, by what it is and by what is there.
use Rattle.std.proofs.Common.{◌≡◌, ◌⊎◌, ℕ, ◌≤◌, ◌<◌, List, [], ◌∷◌, ◌++◌, length, map, slice_index_or, Option, option_map, Bor, sym, ap}
use Rattle.std.{proofs.Common.{◌∙◌, rules, arith, append-nil}, specs.Prelude.ℤ}
use Rattle.yq_core.{specs.Paths.{Nth, child_at}, specs.Tree.{Node, Children, children_of}}
use Rattle.yq_nodes.{specs.Nodes.{kind_of, node_of}, specs.declared.nodes.node.NodeKind.NodeKind}
use Rattle.yq_eval.{specs.declared.matching.place.Missing.{Missing, Further, Nothing, the_lemmas}, specs.FoundView.child_places}
use Rattle.yq_eval.{specs.PlaceView.{missing_of, path_of, place_of, places_of, put_after}, proofs.PlaceLaws.missed_on}
use Rattle.yq_semantics.{specs.Judgement.{and_then, gives}, specs.Matching.{item_at_index, item_number}}
use Rattle.yq_semantics.specs.Places.{FoundPlace, all_steps, child_place, for_each, miss, step_from, step_on, stepped}
use Rattle.yq_semantics.{specs.Program.{PathStep, each}, specs.View.program_step}
use Rattle.yq_nodes.specs.declared.nodes.node.NodeKind.TheVariants as node_kinds
use Rattle.yq_eval.specs.declared.matching.place.FoundPlace as declared
use Rattle.yq_semantics.specs.declared.program.PathStep as program

-- ---- what is missing

pub one_missing : (m : Missing) (front : Bor Missing) (step : Bor program.PathStep) → m ≡ Further front step → missing_of m ≡ missing_of front.now ++ program_step
    step.now ∷ []
one_missing m front step is = ap missing_of is ∙ search (rules, the_lemmas)

pub none_missing : (m : Missing) → m ≡ Nothing → missing_of m ≡ []
none_missing m is = ap missing_of is ∙ search (rules, the_lemmas)

-- after a missing step
pub step_missed : (before : List FoundPlace) (s last : PathStep) (p : FoundPlace) (front : List PathStep) → p.missing ≡ front ++ last ∷ [] → put_after before (step_on s p)
    ≡ gives (before ++ miss s p)
step_missed before s last p front is = ap (λ ms. put_after before (step_from ms s p)) is ∙ ap (put_after before) (missed_on front last s p)

-- ---- from a node, by its kind

pub steps_of_coll : (n : Node) (k : NodeKind) → k ≡ kind_of n → (k ≡ node_kinds.List) ⊎ (k ≡ node_kinds.Map) → all_steps n ≡ gives (stepped 0 (children_of n))
steps_of_coll n k is coll = search rules

-- the item of an index, by its number
pub item_found : (i j : ℤ) (cs : Children) (n : ℕ) (o : Option Node) → j ≡ i → item_number j cs ≡ gives n → o ≡ child_at (Nth n) cs → item_at_index i cs ≡ gives
    (option_map (λ m. (Nth n, m)) o)
item_found i j cs n o same h at = search rules

-- ---- of places

-- the items or values at the only place
pub parent_gives : (ps : List declared.FoundPlace) (x : declared.FoundPlace) (k : NodeKind) → 1 ≤ length ps → length ps < 2 → x ≡ slice_index_or ps 0 x → x.missing
    ≡ Nothing → k ≡ kind_of (node_of x.node) → (k ≡ node_kinds.List) ⊎ (k ≡ node_kinds.Map) →
    for_each (step_on each) (places_of ps) ≡ gives (child_places (path_of x.path) (node_of x.node))
parent_gives [] x k some one at none is coll = absurd (omega (arith, some))
parent_gives (y ∷ (z ∷ ps)) x k some one at none is coll = absurd (omega (arith, one))
parent_gives (y ∷ []) x k some one at none is coll =
    let p : FoundPlace = place_of x in
    let xs = map (child_place p) (stepped 0 (children_of p.node)) in
    let steps : step_on each p ≡ gives xs =
    ap (λ ms. step_from ms each p) (none_missing x.missing none) ∙ ap (and_then (λ ys. gives (map (child_place p) ys))) (steps_of_coll p.node k is coll) in
    ap (λ (z : declared.FoundPlace). for_each (step_on each) (places_of (z ∷ []))) (sym at)
    ∙ (ap (and_then (λ first. and_then (λ others. gives (first ++ others)) (gives []))) steps ∙ ap gives (append-nil xs))
