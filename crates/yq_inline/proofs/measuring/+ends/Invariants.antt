use Rattle.std.{proofs.Common.{◌≡◌, ◌+◌, ◌*◌, ◌-◌, ◌≤◌, length}, specs.Str.IsUtf8}
use Rattle.yq_inline.specs.Measured.{closing_byte, past_node}
use Rattle.yq_core.specs.PlacedReading.{placed_coll, placed_items}
use Rattle.yq_inline.proofs.measuring.+ends.Given as goal

abbrev pub decreases-measure_node : goal.decreases-measure_node
decreases-measure_node l = 4 * l.depth + 2

abbrev pub decreases-measure_content : goal.decreases-measure_content
decreases-measure_content l = 4 * l.depth + 1

abbrev pub decreases-measure_value : goal.decreases-measure_value
decreases-measure_value l = 4 * l.depth + 3

abbrev pub decreases-measure_parts : goal.decreases-measure_parts
decreases-measure_parts l = 4 * l.depth

abbrev pub decreases-measure_parts-each : goal.decreases-measure_parts-each
decreases-measure_parts-each l = length l.rest

abbrev pub invariant-measure_parts-each : goal.invariant-measure_parts-each
invariant-measure_parts-each l = record {
  utf8 : IsUtf8 l.rest;
  within : length l.rest ≤ length l.fn.text;
  mark : l.closing ≡ closing_byte l.keyed;
  so_far : past_node (placed_items 0 (l.depth - 1) (closing_byte l.keyed) l.rest) ≡ past_node (placed_coll 0 l.depth (closing_byte l.keyed) l.fn.text);
}
