use Rattle.std.proofs.Common.{◌≡◌, map, take}
use Rattle.yq_core.specs.Values.{field_of, value_node}
use Rattle.yq_planner.proofs.updating.copied.+copied.Given as goal

abbrev pub invariant-copied_entries-each : goal.invariant-copied_entries-each
invariant-copied_entries-each l = map field_of l.copies.items ≡ map field_of (take l.entry-index l.entry-items)

abbrev pub invariant-copied_items-each : goal.invariant-copied_items-each
invariant-copied_items-each l = map value_node l.copies.items ≡ map value_node (take l.item-index l.item-items)
