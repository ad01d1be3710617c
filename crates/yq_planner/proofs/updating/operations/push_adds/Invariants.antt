use Rattle.std.{proofs.Common.{◌≡◌, ◌++◌, map, length}, specs.Vec.Iter.{into_iter_items, into_iter_len}}
use Rattle.yq_documents.specs.Located.{steps_of}
use Rattle.yq_planner.specs.ChangeView.{addition_of}
use Rattle.yq_semantics.{specs.Operations.operations_of, specs.Plans.add_op}
use Rattle.yq_planner.proofs.updating.operations.push_adds.Given as goal

abbrev pub invariant-each : goal.invariant-each
invariant-each l = record {
  so_far : operations_of l.ops.items
      ++ map (add_op l.path.doc (steps_of l.path)) (map addition_of (into_iter_items l.addition-iterator)) ≡ operations_of l.fn.ops.items
      ++ map (add_op l.path.doc (steps_of l.path)) (map addition_of l.fn.additions.items);
  counted : into_iter_len l.addition-iterator ≡ length (into_iter_items l.addition-iterator);
}
