use Rattle.std.proofs.Common.{◌≡◌}
use Rattle.yq_core.specs.Values.{value_node}
use Rattle.yq_planner.specs.Repeated.{sum_times}
use Rattle.yq_planner.proofs.updating.repeated.value_times.Given as goal

abbrev pub invariant-times : goal.invariant-times
invariant-times l = record {
  so_far : sum_times l.left (value_node l.value) (value_node l.total) ≡ sum_times l.times (value_node l.value) (value_node l.fn.total);
}

abbrev pub decreases-times : goal.decreases-times
decreases-times l = l.left
