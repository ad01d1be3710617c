use Rattle.std.proofs.Common.{◌≡◌, drop, false, true}
use Rattle.yq_core.specs.Values.{entries_of, items_of}
use Rattle.yq_flow_edits.specs.Valued.{AreValueTrees}
use Rattle.yq_semantics.specs.Changes.{have_long_key}
use Rattle.yq_planner.proofs.updating.limits.+long.Given as goal

abbrev pub invariant-some_holds_long_key-each : goal.invariant-some_holds_long_key-each
invariant-some_holds_long_key-each l = record {
  so_far : have_long_key (items_of (drop l.item-index l.item-items)) ≡ have_long_key (items_of l.item-items);
  valid : AreValueTrees false (items_of (drop l.item-index l.item-items)) → AreValueTrees false (items_of l.item-items);
}

abbrev pub invariant-some_has_long_key-each : goal.invariant-some_has_long_key-each
invariant-some_has_long_key-each l = record {
  so_far : have_long_key (entries_of (drop l.entry-index l.entry-items)) ≡ have_long_key (entries_of l.entry-items);
  valid : AreValueTrees true (entries_of (drop l.entry-index l.entry-items)) → AreValueTrees true (entries_of l.entry-items);
}
