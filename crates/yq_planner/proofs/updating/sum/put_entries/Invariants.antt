use Rattle.std.{proofs.Common.{◌≡◌, length, map}, specs.Vec.Iter.{into_iter_items, into_iter_len}}
use Rattle.yq_core.specs.Values.{entries_of, field_of}
use Rattle.yq_planner.specs.EntryNumbers.{AreNumbered}
use Rattle.yq_semantics.specs.RightValues.{with_entries}
use Rattle.yq_planner.proofs.updating.sum.put_entries.Given as goal

abbrev pub invariant-each : goal.invariant-each
invariant-each l = record {
  numbered : AreNumbered (map field_of l.entries.items) l.numbers;
  so_far : with_entries (entries_of l.entries.items) (entries_of (into_iter_items l.key-iterator)) ≡ with_entries (entries_of l.fn.entries.items) (entries_of l.fn.others.items);
  counted : into_iter_len l.key-iterator ≡ length (into_iter_items l.key-iterator);
}
