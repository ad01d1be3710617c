use Rattle.std.{proofs.Common.{◌≡◌, length}, specs.Vec.Iter.{into_iter_items, into_iter_len}}
use Rattle.yq_core.{specs.Paths.append_children, specs.Values.items_of}
use Rattle.yq_planner.proofs.updating.sum.push_all.Given as goal

abbrev pub invariant-each : goal.invariant-each
invariant-each l = record {
  so_far : append_children (items_of l.items.items) (items_of (into_iter_items l.other-iterator)) ≡ append_children (items_of l.fn.items.items) (items_of l.fn.others.items);
  counted : into_iter_len l.other-iterator ≡ length (into_iter_items l.other-iterator);
}
