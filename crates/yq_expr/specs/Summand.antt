-- Terms of sums: scalars that are added as they are, and terms that are added several times.
use Rattle.std.specs.Prelude.{◌≡◌, ℕ, List, false, None}
use Rattle.yq_core.{specs.declared.kind.Kind.Kind, specs.Tree.{Node, scalar}, specs.Values.value_node, specs.declared.value.Value.Value}
use Rattle.yq_eval.specs.PlaceView.{place_of}
use Rattle.yq_planner.specs.Repeated.{sum_times}
use Rattle.yq_semantics.{specs.Judgement.{Judgement, and_then, gives}, specs.RightValues.{is_null, term_value}, specs.View.term_of}
use Rattle.yq_eval.specs.declared.matching.place.FoundPlace as place
use Rattle.yq_semantics.specs.declared.program.Term as term

-- what a term gives is the scalar of that kind and text, and not null (own)
abbrev pub IsSummand : Kind → List ℕ → Judgement Node → Type 0
IsSummand kind text j = (j ≡ gives (scalar None kind text)) × (is_null (scalar None kind text) ≡ false)

-- a value after that of a term, from a place, was added so many times (own)
abbrev pub found_times : ℕ → place.FoundPlace → term.Term → ℕ → Value → Judgement Node
found_times doc p t n total = and_then (λ v. sum_times n v (value_node total)) (term_value doc (place_of p) (term_of t))
