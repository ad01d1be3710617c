use Rattle.std.{proofs.Common.{◌≡◌, ◌+◌, ◌*◌, ◌≤◌, length}, specs.Str.IsUtf8}
use Rattle.yq_core.{specs.PlacedReading.placed_items, specs.View.{after_items, after_entries}}
use Rattle.yq_inline.proofs.reading.+nodes.Given as goal

abbrev pub decreases-read_node : goal.decreases-read_node
decreases-read_node l = 6 * l.depth + 3

abbrev pub decreases-read_content : goal.decreases-read_content
decreases-read_content l = 6 * l.depth + 2

abbrev pub decreases-read_form : goal.decreases-read_form
decreases-read_form l = 6 * l.depth + 1

abbrev pub decreases-read_sequence : goal.decreases-read_sequence
decreases-read_sequence l = 6 * l.depth

abbrev pub decreases-read_mapping : goal.decreases-read_mapping
decreases-read_mapping l = 6 * l.depth

abbrev pub decreases-read_item : goal.decreases-read_item
decreases-read_item l = 6 * l.depth + 4

abbrev pub decreases-read_items : goal.decreases-read_items
decreases-read_items l = 6 * l.depth + 5

abbrev pub decreases-read_entry : goal.decreases-read_entry
decreases-read_entry l = 6 * l.depth + 4

abbrev pub decreases-read_entries : goal.decreases-read_entries
decreases-read_entries l = 6 * l.depth + 5

abbrev pub decreases-read_items-each : goal.decreases-read_items-each
decreases-read_items-each l = length l.rest

abbrev pub decreases-read_entries-each : goal.decreases-read_entries-each
decreases-read_entries-each l = length l.rest

abbrev pub invariant-read_items-each : goal.invariant-read_items-each
invariant-read_items-each l = record {
  utf8 : IsUtf8 l.rest;
  within : length l.rest ≤ length l.fn.text;
  so_far : after_items l.items.items (placed_items (length l.whole) l.depth 93 l.rest) ≡ placed_items (length l.whole) l.depth 93 l.fn.text;
}

abbrev pub invariant-read_entries-each : goal.invariant-read_entries-each
invariant-read_entries-each l = record {
  utf8 : IsUtf8 l.rest;
  within : length l.rest ≤ length l.fn.text;
  so_far : after_entries l.entries.items (placed_items (length l.whole) l.depth 125 l.rest) ≡ placed_items (length l.whole) l.depth 125 l.fn.text;
}
