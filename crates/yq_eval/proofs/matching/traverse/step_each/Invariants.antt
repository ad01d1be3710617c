use Rattle.std.proofs.Common.{◌≡◌, drop}
use Rattle.yq_eval.specs.PlaceView.{places_of, put_after}
use Rattle.yq_semantics.specs.View.{program_step}
use Rattle.yq_semantics.specs.Places as spec
use Rattle.yq_eval.proofs.matching.traverse.step_each.Given as goal

abbrev pub invariant-places : goal.invariant-places
invariant-places l =
    put_after (places_of l.next.items) (spec.for_each (spec.step_on (program_step l.step)) (places_of (drop l.place-index l.places)))
    ≡ spec.for_each (spec.step_on (program_step l.step)) (places_of l.places)
