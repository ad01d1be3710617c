use Rattle.std.proofs.Common.{◌≡◌, None, drop, map}
use Rattle.yq_core.{specs.Entries.{placed_entry_at, tree_step}, specs.View.borrowed_view}
use Rattle.yq_inline.specs.BorrowedParts.{borrowed_entry}
use Rattle.yq_inline.proofs.borrowed_entries.entry_in.Given as goal

abbrev pub invariant-steps : goal.invariant-steps
invariant-steps l = placed_entry_at (map tree_step (drop l.step-index l.steps)) (borrowed_entry l.found) ≡ placed_entry_at (map tree_step l.fn.steps) (None, borrowed_view l.fn.node)
