use Rattle.std.proofs.Common.{◌-◌, ◌≤◌}
use Rattle.yq_core.{specs.Keys.depth, specs.Values.value_node}
use Rattle.yq_planner.proofs.updating.substitute.depth_of.Given as goal

abbrev pub invariant-depths : goal.invariant-depths
invariant-depths l = record {
  most : l.depth ≤ 65;
  below : l.depth ≤ depth (value_node l.value);
}

abbrev pub decreases-depths : goal.decreases-depths
decreases-depths l = 65 - l.depth
