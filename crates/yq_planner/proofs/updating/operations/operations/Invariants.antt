use Rattle.std.{proofs.Common.{◌≡◌, ◌+◌, ◌++◌, length}, specs.Vec.Iter.{into_iter_items, into_iter_len}}
use Rattle.yq_planner.specs.ChangeView.{all_changes_under}
use Rattle.yq_semantics.{specs.Plans.all_ops, specs.Under.all_under}
use Rattle.yq_planner.proofs.updating.operations.operations.Given as goal

abbrev pub invariant-documents : goal.invariant-documents
invariant-documents l = record {
  so_far : all_under l.parts.items ++ all_ops l.removal l.doc (all_changes_under (into_iter_items l.changed-iterator)) ≡ all_ops l.removal 0 (all_changes_under l.fn.changes.items);
  counted : into_iter_len l.changed-iterator ≡ length (into_iter_items l.changed-iterator);
  numbered : l.doc + length (into_iter_items l.changed-iterator) ≡ length l.fn.changes.items;
}
