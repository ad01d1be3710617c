use Rattle.std.{proofs.Common.{◌≡◌, ◌++◌, length}, specs.Vec.Iter.{into_iter_items, into_iter_len}}
use Rattle.yq_semantics.{specs.Operations.operations_of, specs.Under.ops_under}
use Rattle.yq_semantics.proofs.under.push_whole.Given as goal

abbrev pub invariant-each : goal.invariant-each
invariant-each l = record {
  so_far : operations_of l.ops.items ++ ops_under l.front (into_iter_items l.op-iterator) ≡ operations_of l.fn.ops.items ++ ops_under l.front l.fn.below.items;
  counted : into_iter_len l.op-iterator ≡ length (into_iter_items l.op-iterator);
}
