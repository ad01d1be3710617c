use Rattle.std.proofs.Common.{◌≡◌, drop, ◌+◌, ◌*◌}
use Rattle.yq_core.{specs.View.{inline_view, items_end, entries_end}, specs.Spans.PartsHaveSpans}
use Rattle.yq_documents.specs.KeyReading.{parts_fit}
use Rattle.yq_outline.proofs.SizeLaws.{node_size, parts_size}
use Rattle.yq_row_heads.proofs.flow_keys.+fits.Given as goal

abbrev pub decreases-keys_fault : goal.decreases-keys_fault
decreases-keys_fault l = 2 * node_size (inline_view l.node.now)

abbrev pub decreases-items_fault : goal.decreases-items_fault
decreases-items_fault l = 2 * parts_size (items_end l.items.now.items) + 1

abbrev pub decreases-entries_fault : goal.decreases-entries_fault
decreases-entries_fault l = 2 * parts_size (entries_end l.entries.now.items) + 1

abbrev pub invariant-items_fault-each : goal.invariant-items_fault-each
invariant-items_fault-each l = record {
  are_there : PartsHaveSpans l.whole (items_end (drop l.item-index l.item-items));
  so_far : parts_fit l.whole (items_end (drop l.item-index l.item-items)) ≡ parts_fit l.whole (items_end l.item-items);
}

abbrev pub invariant-entries_fault-each : goal.invariant-entries_fault-each
invariant-entries_fault-each l = record {
  are_there : PartsHaveSpans l.whole (entries_end (drop l.entry-index l.entry-items));
  so_far : parts_fit l.whole (entries_end (drop l.entry-index l.entry-items)) ≡ parts_fit l.whole (entries_end l.entry-items);
}
