use Rattle.std.proofs.Common.{◌≡◌, [], ◌∷◌, drop, map}
use Rattle.yq_eval.{specs.PlaceAnswers.pipe_from, specs.PlaceView.place_of}
use Rattle.yq_semantics.{specs.Pipes.pipe_on, specs.View.stage_of}
use Rattle.yq_eval.proofs.matching.together.stages_keep.Given as goal

abbrev pub invariant-stages : goal.invariant-stages
invariant-stages l = pipe_on l.doc (map stage_of (drop l.stage-index l.stages)) (place_of l.place ∷ []) ≡ pipe_from l.doc l.stages l.place
