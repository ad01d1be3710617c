-- What calls that gather matches answer (own).
use Rattle.std.{specs.Prelude.{◌≡◌, ℕ, List, Result, String, Vec, map}, specs.declared.alloc.Global.Global}
use Rattle.yq_core.{specs.Tree.Node as TreeNode, specs.Values.{field_of, value_node}, specs.declared.value.Value.Value}
use Rattle.yq_documents.specs.Reading.{documents_of}
use Rattle.yq_nodes.{specs.Nodes.node_of, specs.declared.nodes.node.Node.Node}
use Rattle.yq_semantics.{specs.Copies.{match_at, matches, matches_in}, specs.Judgement.{Judgement, Judges, ExprError}}
use Rattle.yq_semantics.{specs.Places.for_each, specs.Program.{Stage as PipeStage, read}, specs.View.{program_of, stage_of}}
use Rattle.yq_semantics.{specs.declared.program.Stage.Stage, specs.declared.program.Syntax.Syntax}
use Rattle.yq_eval.{specs.MatchView.matches_of, specs.PlaceView.{places_of, put_after}, specs.declared.matched.Match.Match}
use Rattle.yq_eval.specs.declared.matching.place.FoundPlace.{FoundPlace}

-- an answer's matches are those that come of something, or its refusal is the one that does
abbrev pub JudgesMatches : Result (Vec Match Global) ExprError → Judgement (List (ℕ × TreeNode)) → Type 0
JudgesMatches r j = Judges (λ v. matches_of v.items) r j

-- the matches after a call are those before it, and then those that come of something; or its refusal is the one that does
abbrev pub AddsMatches : {T : Type 0} → Result T ExprError → (old new : Vec Match Global) → Judgement (List (ℕ × TreeNode)) → Type 0
AddsMatches r old new j = Judges (λ _. matches_of new.items) r (put_after (matches_of old.items) j)

-- an answer's matches are those of a program in the documents of a text, where it is a read
abbrev pub JudgesRead : Result (Vec Match Global) ExprError → Syntax → List ℕ → Type 0
JudgesRead r program t = (pipe : List PipeStage) → program_of program ≡ read pipe → JudgesMatches r (matches pipe (documents_of t))

-- the matches at places of the document of that number
abbrev pub matches_at_each : ℕ → List FoundPlace → Judgement (List (ℕ × TreeNode))
matches_at_each doc ps = for_each (match_at doc) (places_of ps)

-- the matches of a pipe in the document of that number, which has that root
abbrev pub matches_below : ℕ → List Stage → Node → Judgement (List (ℕ × TreeNode))
matches_below doc pipe root = matches_in doc (map stage_of pipe) (node_of root)

-- an answer's values are those that come of something, or its refusal is the one that does
abbrev pub JudgesValues : Result (Vec Value Global) ExprError → Judgement (List TreeNode) → Type 0
JudgesValues r j = Judges (λ v. map value_node v.items) r j

-- the same of entries, with their keys
abbrev pub JudgesFields : Result (Vec (String Global × Value) Global) ExprError → Judgement (List (List ℕ × TreeNode)) → Type 0
JudgesFields r j = Judges (λ v. map field_of v.items) r j
