-- Where steps lead in a document, from places to places (yq manual; own).
use Rattle.std.specs.Prelude.{ℕ, suc, List, [], ◌∷◌, ◌++◌, map, Option, Some, None}
use Rattle.yq_core.{specs.Paths.{To, Nth}, specs.Tree.{Node, alias, scalar, list, Children, none, child}}
use Rattle.yq_semantics.specs.declared.refusal.Refusal.TheVariants.{NotASequence, ThroughAlias}
use Rattle.yq_semantics.specs.Judgement.{Judgement, and_then, gives, refuses}
use Rattle.yq_semantics.{specs.Matching.{ChildFound, in_scalar, key_step, index_step}, specs.Program.{PathStep, key, index, each}}
use Rattle.yq_core.specs.Paths as paths
use Rattle.yq_core.specs.Tree as tree

-- a place to which steps lead: the path to the last node on the way, that node, and the steps that are missing from there (own)
pub record FoundPlace : Type 0 where
  pub path : List paths.Step
  pub node : Node
  pub missing : List PathStep

-- the place of a root (own)
abbrev pub root_place : Node → FoundPlace
root_place n = record { path = []; node = n; missing = [] }

-- the place of an item or entry, by the step to it (own)
abbrev pub child_place : FoundPlace → paths.Step × Node → FoundPlace
child_place p x = record { path = p.path ++ x.0 ∷ []; node = x.1; missing = [] }

-- what comes of each of several, one after the other, or the first refusal (own)
abbrev pub for_each : {A B : Type 0} → (A → Judgement (List B)) → List A → Judgement (List B)
for_each f [] = gives []
for_each f (x ∷ xs) = and_then (λ first. and_then (λ others. gives (first ++ others)) (for_each f xs)) (f x)

-- the place from which one more step is missing (own)
abbrev pub further_place : PathStep → FoundPlace → FoundPlace
further_place s p = record { path = p.path; node = p.node; missing = p.missing ++ s ∷ [] }

-- where a step leads that is missing from a place; `[]` leads to none there (own)
abbrev pub miss : PathStep → FoundPlace → List FoundPlace
miss (key k) p = further_place (key k) p ∷ []
miss (index i) p = further_place (index i) p ∷ []
miss each p = []

-- the place of what was found, or that from which the step is missing (own)
abbrev pub found_place : PathStep → FoundPlace → ChildFound → List FoundPlace
found_place s p None = miss s p
found_place s p (Some x) = child_place p x ∷ []

-- the step to an entry, or to an item, by how many come before it (own)
abbrev pub step_by : ℕ → Option (List ℕ) → paths.Step
step_by i None = Nth i
step_by i (Some k) = To k

-- items or entries, each with the step to it, by how many come before these (own)
abbrev pub stepped : ℕ → Children → List (paths.Step × Node)
stepped i none = []
stepped i (child label n cs) = (step_by i label.key, n) ∷ stepped (suc i) cs

-- the items or values of a node, each with the step to it; a null has none (own)
abbrev pub all_steps : Node → Judgement (List (paths.Step × Node))
all_steps (alias name) = refuses ThroughAlias
all_steps (scalar anchor kind text) = and_then (λ nothing. gives []) (in_scalar NotASequence kind)
all_steps (list anchor cs) = gives (stepped 0 cs)
all_steps (tree.map anchor cs) = gives (stepped 0 cs)

-- where a step leads from a place that is there (own)
abbrev pub step_there : PathStep → FoundPlace → Judgement (List FoundPlace)
step_there (key k) p = and_then (λ x. gives (found_place (key k) p x)) (key_step k p.node)
step_there (index i) p = and_then (λ x. gives (found_place (index i) p x)) (index_step i p.node)
step_there each p = and_then (λ xs. gives (map (child_place p) xs)) (all_steps p.node)

-- where a step leads from a place, of which these steps are missing (own)
abbrev pub step_from : List PathStep → PathStep → FoundPlace → Judgement (List FoundPlace)
step_from [] s p = step_there s p
step_from (m ∷ ms) s p = gives (miss s p)

-- where a step leads from a place (own)
abbrev pub step_on : PathStep → FoundPlace → Judgement (List FoundPlace)
step_on s p = step_from p.missing s p

-- what comes of something when several act on it in turn, each on what the one before gave (own)
abbrev pub chained : {S A : Type 0} → (S → A → Judgement A) → List S → A → Judgement A
chained f [] a = gives a
chained f (s ∷ ss) a = and_then (chained f ss) (f s a)

-- where steps lead from places: each acts on all of them, in order, before the next one does (own)
abbrev pub traverse : List PathStep → List FoundPlace → Judgement (List FoundPlace)
traverse steps ps = chained (λ s. for_each (step_on s)) steps ps
