use Rattle.std.proofs.Common.{◌≡◌, drop, map}
use Rattle.yq_eval.specs.PlaceView.{places_of}
use Rattle.yq_semantics.specs.View.{stage_of}
use Rattle.yq_semantics.specs.Pipes as spec
use Rattle.yq_eval.proofs.matching.pipe.stages_on.Given as goal

abbrev pub invariant-stages : goal.invariant-stages
invariant-stages l = spec.pipe_on l.doc (map stage_of (drop l.stage-index l.stages)) (places_of l.places.items) ≡ spec.pipe_on l.doc (map stage_of l.stages) (places_of l.fn.start.items)
