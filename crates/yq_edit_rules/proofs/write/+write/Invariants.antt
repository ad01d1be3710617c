use Rattle.std.proofs.Common.{◌≡◌, ◌++◌, drop, false, map, string_bytes, true}
use Rattle.yq_flow_edits.specs.Valued.{AreValueTrees}
use Rattle.yq_core.specs.Values.{value_node, field_of, items_of, entries_of}
use Rattle.yq_edit_rules.specs.BlockReading as spec
use Rattle.yq_edit_rules.proofs.write.+write.Given as goal

abbrev pub invariant-push_entries-each : goal.invariant-push_entries-each
invariant-push_entries-each l = record {
  text : string_bytes l.out ++ spec.separated_texts (spec.break_and_indent l.layout l.column) l.first (map (spec.block_pair l.layout l.column) (map field_of (drop l.entry-index l.entry-items)))
      ≡ string_bytes l.fn.out ++ spec.separated_texts (spec.break_and_indent l.layout l.column) true (map (spec.block_pair l.layout l.column) (map field_of l.entry-items));
  valid : AreValueTrees true (entries_of (drop l.entry-index l.entry-items)) → AreValueTrees true (entries_of l.entry-items);
}

abbrev pub invariant-push_items-each : goal.invariant-push_items-each
invariant-push_items-each l = record {
  text : string_bytes l.out ++ spec.separated_texts (spec.break_and_indent l.layout l.column) l.first (map (spec.block_item l.layout l.column) (map value_node (drop l.item-index l.item-items)))
      ≡ string_bytes l.fn.out ++ spec.separated_texts (spec.break_and_indent l.layout l.column) true (map (spec.block_item l.layout l.column) (map value_node l.item-items));
  valid : AreValueTrees false (items_of (drop l.item-index l.item-items)) → AreValueTrees false (items_of l.item-items);
}
