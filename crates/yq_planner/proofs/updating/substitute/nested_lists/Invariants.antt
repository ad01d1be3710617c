use Rattle.std.proofs.Common.{◌≡◌, ◌-◌, ◌≤◌, false}
use Rattle.yq_core.{specs.Keys.depth, specs.Values.value_node}
use Rattle.yq_semantics.specs.Changes.{has_long_key}
use Rattle.yq_planner.proofs.updating.substitute.nested_lists.Given as goal

abbrev pub invariant-lists : goal.invariant-lists
invariant-lists l = record {
  within : l.done ≤ l.count;
  deep : depth (value_node l.value) ≡ l.done;
  short : has_long_key (value_node l.value) ≡ false;
}

abbrev pub decreases-lists : goal.decreases-lists
decreases-lists l = l.count - l.done
