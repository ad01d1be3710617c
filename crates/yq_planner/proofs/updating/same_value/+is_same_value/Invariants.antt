use Rattle.std.proofs.Common.{◌≡◌, map, drop}
use Rattle.yq_core.specs.Values.{field_of, value_node}
use Rattle.yq_planner.proofs.updating.same_value.+is_same_value.Given as goal

abbrev pub invariant-are_same_entries-each : goal.invariant-are_same_entries-each
invariant-are_same_entries-each l = record {
  same : map field_of (drop l.entry-index l.entry-items) ≡ map field_of l.rest → map field_of l.entry-items ≡ map field_of l.others.items;
}

abbrev pub invariant-are_same_items-each : goal.invariant-are_same_items-each
invariant-are_same_items-each l = record {
  same : map value_node (drop l.item-index l.item-items) ≡ map value_node l.rest → map value_node l.item-items ≡ map value_node l.others.items;
}
