-- What calls on places of the code answer (own).
use Rattle.std.specs.Prelude.{◌≡◌, ◌++◌, ◌∷◌, [], ℕ, IfSome, List, Option, OnOk, Result, Vec, Bool, map}
use Rattle.std.specs.declared.alloc.Global.{Global}
use Rattle.yq_core.{specs.Tree.{Node as TreeNode, children_of}, specs.Paths.Step}
use Rattle.yq_nodes.{specs.Nodes.{label_of, node_of}, specs.declared.nodes.node.Node.Node}
use Rattle.yq_semantics.specs.Judgement.{Judgement, Judges, gives, ExprError}
use Rattle.yq_semantics.specs.Places.{child_place, for_each, further_place, found_place, miss, step_by, step_on, stepped}
use Rattle.yq_semantics.{specs.Places.FoundPlace as Place, specs.Pipes.{kept_place, places, pipe_on, select_on, stage_on}}
use Rattle.yq_semantics.{specs.Program.{each, path}, specs.View.{condition_of, program_step, stage_of}}
use Rattle.yq_semantics.{specs.declared.program.PathStep.PathStep, specs.declared.program.Condition.Condition}
use Rattle.yq_semantics.specs.declared.program.Stage.{Stage}
use Rattle.yq_eval.{specs.FoundView.child_places, specs.PlaceView.{found_of, missing_of, path_of, place_of, places_of, put_after}}
use Rattle.yq_eval.{specs.declared.matching.place.FoundPlace.FoundPlace, specs.declared.matching.place.Missing.Missing}
use Rattle.yq_eval.{specs.declared.matching.place.NodePath.NodePath, specs.declared.matching.place.NodeStep.NodeStep}

-- an answer's places are those that come of something, or its refusal is the one that does
abbrev pub JudgesPlaces : Result (Vec FoundPlace Global) ExprError → Judgement (List Place) → Type 0
JudgesPlaces r j = Judges (λ v. places_of v.items) r j

-- the places after a call are those before it, and then those that come of something; or its refusal is the one that does
abbrev pub AddsPlaces : {T : Type 0} → Result T ExprError → (old new : Vec FoundPlace Global) → Judgement (List Place) → Type 0
AddsPlaces r old new j = Judges (λ _. places_of new.items) r (put_after (places_of old.items) j)

-- a success puts these places after those that were there
abbrev pub PutsPlaces : {T E : Type 0} → Result T E → (old new : Vec FoundPlace Global) → List Place → Type 0
PutsPlaces r old new ps = OnOk r (places_of new.items ≡ places_of old.items ++ ps)

-- an answer is whether something is so, or the refusal of that
abbrev pub JudgesWhether : Result Bool ExprError → Judgement Bool → Type 0
JudgesWhether r j = Judges (λ b. b) r j

-- the places after a call are those that come of something; or its refusal is the one that does
abbrev pub FillsPlaces : {T : Type 0} → Result T ExprError → (new : Vec FoundPlace Global) → Judgement (List Place) → Type 0
FillsPlaces r new j = Judges (λ _. places_of new.items) r j

-- the places of a vector
abbrev pub places_in : Vec FoundPlace Global → List Place
places_in v = places_of v.items

-- the places to which a pipe leads from the root of the document of that number
abbrev pub pipe_places : ℕ → List Stage → Node → Judgement (List Place)
pipe_places doc pipe root = places doc (map stage_of pipe) (node_of root)

-- the places to which stages lead from a place
abbrev pub pipe_from : ℕ → List Stage → FoundPlace → Judgement (List Place)
pipe_from doc stages p = pipe_on doc (map stage_of stages) (place_of p ∷ [])

-- the places to which a stage leads from a place
abbrev pub stage_from : ℕ → Stage → FoundPlace → Judgement (List Place)
stage_from doc stage p = stage_on doc (stage_of stage) (place_of p ∷ [])

-- where it is known whether a place is kept, something leads to it alone, or to none
abbrev pub KnowsKept : Option Bool → Judgement (List Place) → Place → Type 0
KnowsKept o j p = IfSome o (λ b. j ≡ gives (kept_place p b))

-- the places to which stages lead from those of a vector
abbrev pub pipe_places_from : ℕ → List Stage → Vec FoundPlace Global → Judgement (List Place)
pipe_places_from doc stages v = pipe_on doc (map stage_of stages) (places_in v)

-- stages lead from places to these
abbrev pub KeepsPlaces : ℕ → List Stage → (ps kept : List FoundPlace) → Type 0
KeepsPlaces doc stages ps kept = pipe_on doc (map stage_of stages) (places_of ps) ≡ gives (places_of kept)

-- the place alone, if the condition holds there, in the document of that number
abbrev pub kept_if : ℕ → Condition → Place → Judgement (List Place)
kept_if doc condition = select_on doc (condition_of condition)

-- the places to which a step leads from a place
abbrev pub step_along : PathStep → Place → Judgement (List Place)
step_along step = step_on (program_step step)

-- the place at which a step is missing, if it may be
abbrev pub missed_at : PathStep → FoundPlace → List Place
missed_at step p = miss (program_step step) (place_of p)

-- the place of the child that was found by a step, or that at which the step is missing
abbrev pub places_found : PathStep → FoundPlace → Option (NodeStep × Node) → List Place
places_found step p found = found_place (program_step step) (place_of p) (found_of found)

-- the places of all items or values of a place's node
abbrev pub places_below : FoundPlace → List Place
places_below p = map (child_place (place_of p)) (stepped 0 (children_of (node_of p.node)))

-- a place is that of a child, with its step, of every place with that path
abbrev pub IsChildPlace : NodePath → FoundPlace → Step × TreeNode → Type 0
IsChildPlace front p child = (parent : Place) → parent.path ≡ path_of front → place_of p ≡ child_place parent child

-- the step to a child that so many come before, and its node
abbrev pub child_after : ℕ → Node → Step × TreeNode
child_after before child = (step_by before (label_of child).key, node_of child)

-- a place is the one that a missing step makes of another, of which the front has the missing steps
abbrev pub IsFurther : Missing → FoundPlace → PathStep → FoundPlace → Type 0
IsFurther front before step p = missing_of front ≡ missing_of before.missing → place_of p ≡ further_place (program_step step) (place_of before)

-- a pipe is one path, of these steps and a last one to all items or values
abbrev pub EndsInEach : List Stage → List PathStep → PathStep → Type 0
EndsInEach pipe front last = (program_step last ≡ each) × (map stage_of pipe ≡ path (map program_step front ++ each ∷ []) ∷ [])

-- all items or values of places are those of this one's node
abbrev pub HaveChildrenOf : List FoundPlace → FoundPlace → Type 0
HaveChildrenOf ps p = for_each (step_on each) (places_of ps) ≡ gives (child_places (path_of p.path) (node_of p.node))
