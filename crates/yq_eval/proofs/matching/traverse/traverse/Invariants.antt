use Rattle.std.proofs.Common.{◌≡◌, drop, map}
use Rattle.yq_eval.specs.PlaceView.{places_of}
use Rattle.yq_semantics.specs.View.{program_step}
use Rattle.yq_semantics.specs.Places as spec
use Rattle.yq_eval.proofs.matching.traverse.traverse.Given as goal

abbrev pub invariant-steps : goal.invariant-steps
invariant-steps l = spec.traverse (map program_step (drop l.step-index l.steps)) (places_of l.places.items) ≡ spec.traverse (map program_step l.steps) (places_of l.fn.start.items)
