-- What is missing from a place.
use Rattle.std.proofs.Common.{rules, ◌≡◌, ℕ, ◌+◌, List, [], ◌∷◌, ◌++◌, map, refl, append_assoc, add-one, arith}
use Rattle.std.proofs.lemmas.List.{map_push}
use Rattle.yq_core.specs.Tree.{Label, Node, Children, none, child}
use Rattle.yq_outline.{specs.Counts.count, specs.Outline.null_node}
use Rattle.yq_semantics.{specs.Conditions.node_there, specs.Judgement.gives}
use Rattle.yq_semantics.{specs.Places.{FoundPlace, child_place, miss, step_by, step_from, stepped}, specs.Program.PathStep}
use Rattle.yq_eval.specs.PlaceView.{place_of, places_of}
use Rattle.yq_eval.specs.declared.matching.place.FoundPlace as declared

-- where a step is missing there is null
pub null_there : (front : List PathStep) (s : PathStep) (n : Node) → node_there (front ++ s ∷ []) n ≡ null_node
null_there [] s n = refl
null_there (t ∷ ts) s n = refl

-- after a missing step another one is missing
pub missed_on : (front : List PathStep) (s step : PathStep) (p : FoundPlace) → step_from (front ++ s ∷ []) step p ≡ gives (miss step p)
missed_on [] s step p = refl
missed_on (t ∷ ts) s step p = refl

-- one more item or entry has a place
pub children_more : (p : FoundPlace) (before : ℕ) (cs rest : Children) (label : Label) (n : Node) (items : List declared.FoundPlace) (new : declared.FoundPlace) (all : List FoundPlace) →
    cs ≡ child label n rest → place_of new ≡ child_place p (step_by before label.key, n) → places_of items ++ map (child_place p) (stepped before cs) ≡ all →
    places_of (items ++ new ∷ []) ++ map (child_place p) (stepped (before + 1) rest) ≡ all
children_more p before cs rest label n items new all is place so_far = search (rules, add-one, map_push, append_assoc)

-- where nothing is counted there is none
pub none_counted : (cs : Children) → count cs ≡ 0 → cs ≡ none
none_counted none h = refl
none_counted (child label n cs) h = absurd (omega arith)
