use Rattle.std.proofs.Common.{◌≡◌, map, take}
use Rattle.yq_eval.specs.PlaceView.{places_of}
use Rattle.yq_semantics.{specs.Judgement.gives, specs.Pipes.pipe_on, specs.View.stage_of}
use Rattle.yq_eval.proofs.matching.together.keep_each.Given as goal

abbrev pub invariant-places : goal.invariant-places
invariant-places l = pipe_on l.doc (map stage_of l.stages) (places_of (take l.place-index l.places)) ≡ gives (places_of l.kept.items)
