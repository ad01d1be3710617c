use Rattle.std.proofs.Common.{◌≡◌, ◌++◌, drop, false, map, string_bytes, true}
use Rattle.yq_flow_edits.specs.Valued.{AreValueTrees}
use Rattle.yq_core.specs.Values.{value_node, items_of, entries_of}
use Rattle.yq_core.specs.NodesWritten as spec
use Rattle.yq_flow_edits.proofs.write.+write.Given as goal

abbrev pub invariant-push_entries-each : goal.invariant-push_entries-each
invariant-push_entries-each l = record {
  text : string_bytes l.out ++ spec.comma_separated l.first (map (λ e. spec.entry_text (string_bytes e.0, value_node e.1)) (drop l.entry-index l.entry-items))
      ≡ string_bytes l.fn.out ++ spec.comma_separated true (map (λ e. spec.entry_text (string_bytes e.0, value_node e.1)) l.entry-items);
  valid : AreValueTrees true (entries_of (drop l.entry-index l.entry-items)) → AreValueTrees true (entries_of l.entry-items);
}

abbrev pub invariant-push_items-each : goal.invariant-push_items-each
invariant-push_items-each l = record {
  text : string_bytes l.out ++ spec.comma_separated l.first (map (λ v. spec.flow_text (value_node v)) (drop l.item-index l.item-items))
      ≡ string_bytes l.fn.out ++ spec.comma_separated true (map (λ v. spec.flow_text (value_node v)) l.item-items);
  valid : AreValueTrees false (items_of (drop l.item-index l.item-items)) → AreValueTrees false (items_of l.item-items);
}
