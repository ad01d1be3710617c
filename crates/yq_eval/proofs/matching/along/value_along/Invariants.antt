use Rattle.std.proofs.Common.{◌≡◌, drop, map}
use Rattle.yq_eval.{specs.PlaceView.place_of, specs.ValuesAlong.{found_or_null, leads_to_values}}
use Rattle.yq_semantics.{specs.Conditions.value_of, specs.View.program_step}
use Rattle.yq_eval.proofs.matching.along.value_along.Given as goal

abbrev pub invariant-steps : goal.invariant-steps
invariant-steps l = leads_to_values (map program_step (drop l.step-index l.steps)) (found_or_null l.value) ≡ leads_to_values (map program_step l.steps) (value_of (place_of l.fn.place))
