use Rattle.std.proofs.Common.{◌+◌, ◌≤◌, drop}
use Rattle.yq_core.specs.Values.{entries_of, items_of}
use Rattle.yq_semantics.specs.Sizes.{items_among}
use Rattle.yq_expr.proofs.sizes.item_counts.+count.Given as goal

abbrev pub invariant-count_items-each : goal.invariant-count_items-each
invariant-count_items-each l = l.count + items_among (items_of (drop l.item-index l.item-items)) ≤ items_among (items_of l.item-items)

abbrev pub invariant-count_entries-each : goal.invariant-count_entries-each
invariant-count_entries-each l = l.count + items_among (entries_of (drop l.entry-index l.entry-items)) ≤ items_among (entries_of l.entry-items)
