use Rattle.std.proofs.Common.{◌≡◌, drop}
use Rattle.yq_semantics.{specs.Pipes.select_on, specs.Places.for_each, specs.View.condition_of}
use Rattle.yq_eval.specs.PlaceView.{places_of, put_after}
use Rattle.yq_eval.proofs.matching.pipe.select_each.Given as goal

abbrev pub invariant-places : goal.invariant-places
invariant-places l =
    put_after (places_of l.kept.items) (for_each (select_on l.doc (condition_of l.condition)) (places_of (drop l.place-index l.places)))
    ≡ for_each (select_on l.doc (condition_of l.condition)) (places_of l.places)
