use Rattle.std.{proofs.Common.{◌≡◌, ◌++◌, length}, specs.Vec.Iter.{into_iter_items, into_iter_len}}
use Rattle.yq_semantics.{specs.Operations.operations_of, specs.Under.all_under}
use Rattle.yq_semantics.proofs.under.whole_ops.Given as goal

abbrev pub invariant-parts : goal.invariant-parts
invariant-parts l = record {
  so_far : operations_of l.ops.items ++ all_under (into_iter_items l.part-iterator) ≡ all_under l.fn.parts.items;
  counted : into_iter_len l.part-iterator ≡ length (into_iter_items l.part-iterator);
}
