use Rattle.std.proofs.Common.{◌≡◌, ◌++◌, length, map, reverse}
use Rattle.yq_core.specs.Entries.{tree_step}
use Rattle.yq_eval.specs.PlaceView.{path_of}
use Rattle.yq_eval.proofs.matching.steps.path_steps.Given as goal

abbrev pub invariant-steps : goal.invariant-steps
invariant-steps l = path_of l.rest ++ reverse (map tree_step l.steps.items) ≡ path_of l.fn.path

abbrev pub decreases-steps : goal.decreases-steps
decreases-steps l = length (path_of l.rest)
