use Rattle.std.proofs.Common.{drop, false, true}
use Rattle.yq_flow_edits.specs.Valued.{AreValueTrees}
use Rattle.yq_core.specs.Values.{items_of, entries_of}
use Rattle.yq_flow_edits.proofs.valid.+values.Given as goal

abbrev pub invariant-entries_hold-each : goal.invariant-entries_hold-each
invariant-entries_hold-each l = record {
  valid : AreValueTrees true (entries_of (drop l.entry-index l.entry-items)) → AreValueTrees true (entries_of l.entry-items);
}

abbrev pub invariant-items_hold-each : goal.invariant-items_hold-each
invariant-items_hold-each l = record {
  valid : AreValueTrees false (items_of (drop l.item-index l.item-items)) → AreValueTrees false (items_of l.item-items);
}
