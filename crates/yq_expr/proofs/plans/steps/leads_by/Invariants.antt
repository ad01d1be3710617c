use Rattle.std.proofs.Common.{◌≡◌, ◌≤◌, length, map}
use Rattle.yq_core.specs.Entries.{tree_step}
use Rattle.yq_eval.specs.PlaceView.{path_of}
use Rattle.yq_expr.proofs.plans.steps.leads_by.Given as goal

abbrev pub invariant-steps : goal.invariant-steps
invariant-steps l = record {
  bound : length l.left ≤ length l.fn.steps;
  same : path_of l.rest ≡ map tree_step l.left → path_of l.fn.path ≡ map tree_step l.fn.steps;
}

abbrev pub decreases-steps : goal.decreases-steps
decreases-steps l = length (path_of l.rest)
