use Rattle.std.proofs.Common.{◌≡◌, length, map, None}
use Rattle.yq_core.{specs.Entries.{entry_view, placed_entry_at, tree_step}, specs.View.inline_view}
use Rattle.yq_edit_laws.specs.NearParts.{IsUniqueNode}
use Rattle.yq_edit_laws.proofs.near.collection_near.Given as goal

abbrev pub invariant-steps : goal.invariant-steps
invariant-steps l = record {
  unique : IsUniqueNode (inline_view l.found.node.now);
  leads : placed_entry_at (map tree_step l.rest) (entry_view l.found) ≡ placed_entry_at (map tree_step l.fn.steps) (None, inline_view l.fn.node);
}

abbrev pub decreases-steps : goal.decreases-steps
decreases-steps l = length l.rest
