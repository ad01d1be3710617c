use Rattle.std.proofs.Common.{length}
use Rattle.yq_eval.specs.PlaceView.{path_of}
use Rattle.yq_eval.proofs.matching.steps.path_len.Given as goal

abbrev pub decreases-steps : goal.decreases-steps
decreases-steps l = length (path_of l.rest)
