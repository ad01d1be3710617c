use Rattle.std.{proofs.Common.{◌≡◌, ◌++◌, map, length}, specs.Vec.Iter.{into_iter_items, into_iter_len}}
use Rattle.yq_planner.specs.ChangeView.{changed_of}
use Rattle.yq_semantics.{specs.Operations.operations_of, specs.Plans.ops_of}
use Rattle.yq_planner.proofs.updating.operations.push_each.Given as goal

abbrev pub invariant-each : goal.invariant-each
invariant-each l = record {
  so_far : operations_of l.ops.items ++ ops_of l.doc (map changed_of (into_iter_items l.changed-iterator)) ≡ operations_of l.fn.ops.items ++ ops_of l.doc (map changed_of l.fn.changes.items);
  counted : into_iter_len l.changed-iterator ≡ length (into_iter_items l.changed-iterator);
}
