use Rattle.std.proofs.Common.{◌≡◌, None, length, option_map}
use Rattle.yq_core.specs.Entries.{tree_step}
use Rattle.yq_inline.specs.Neighbours.{from_read, passed_view, with_index}
use Rattle.yq_inline.proofs.passing.find_part.Given as goal

abbrev pub decreases-each : goal.decreases-each
decreases-each l = length l.rest.text.now

abbrev pub invariant-each : goal.invariant-each
invariant-each l = record {
  keyed : l.rest.keyed ≡ l.fn.parts.keyed;
  so_far : from_read (with_index l.left (tree_step l.fn.step)) (option_map passed_view l.before) l.rest ≡ from_read (tree_step l.fn.step) None l.fn.parts;
}
