use Rattle.std.proofs.Common.{◌≡◌}
use Rattle.yq_planner.specs.Repeated.{number_times}
use Rattle.yq_planner.proofs.updating.repeated.number_times.Given as goal

abbrev pub invariant-sums : goal.invariant-sums
invariant-sums l = record {
  so_far : number_times l.left l.added l.total ≡ number_times l.times l.added l.first;
}

abbrev pub decreases-sums : goal.decreases-sums
decreases-sums l = l.left
