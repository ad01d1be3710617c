-- Where a pipe leads in a document (yq manual; own).
use Rattle.std.specs.Prelude.{ℕ, Bool, true, false, List, [], ◌∷◌}
use Rattle.yq_core.specs.Tree.{Node}
use Rattle.yq_semantics.{specs.Conditions.condition_holds, specs.Judgement.{Judgement, and_then, gives}}
use Rattle.yq_semantics.{specs.Places.{FoundPlace, root_place, for_each, chained, traverse}, specs.Program.{Condition, Stage, path, select}}

-- a place, if it is kept (own)
abbrev pub kept_place : FoundPlace → Bool → List FoundPlace
kept_place p true = p ∷ []
kept_place p false = []

-- a place in the document of that number, if the condition holds there (own)
abbrev pub select_on : ℕ → Condition → FoundPlace → Judgement (List FoundPlace)
select_on doc c p = and_then (λ b. gives (kept_place p b)) (condition_holds doc c p)

-- where a stage leads from places (own)
abbrev pub stage_on : ℕ → Stage → List FoundPlace → Judgement (List FoundPlace)
stage_on doc (path steps) ps = traverse steps ps
stage_on doc (select c) ps = for_each (select_on doc c) ps

-- where a pipe leads from places: each stage acts on all of them before the next one does (own)
abbrev pub pipe_on : ℕ → List Stage → List FoundPlace → Judgement (List FoundPlace)
pipe_on doc pipe ps = chained (stage_on doc) pipe ps

-- where a pipe leads in the document of that number, with that root (own)
abbrev pub places : ℕ → List Stage → Node → Judgement (List FoundPlace)
places doc pipe root = pipe_on doc pipe (root_place root ∷ [])
