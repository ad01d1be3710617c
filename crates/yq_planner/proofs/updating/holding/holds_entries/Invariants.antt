use Rattle.std.proofs.Common.{◌≡◌, drop}
use Rattle.yq_core.specs.Values.{entries_of}
use Rattle.yq_semantics.specs.RightValues.{with_entries}
use Rattle.yq_planner.proofs.updating.holding.holds_entries.Given as goal

abbrev pub invariant-each : goal.invariant-each
invariant-each l = record {
  so_far : with_entries (entries_of l.entries.items) (entries_of (drop l.other-index l.other-items)) ≡ with_entries (entries_of l.entries.items) (entries_of l.other-items);
}
