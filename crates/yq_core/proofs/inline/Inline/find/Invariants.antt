use Rattle.std.proofs.Common.{◌≡◌, None, drop, map}
use Rattle.yq_core.specs.View.{inline_view}
use Rattle.yq_core.specs.Entries as spec
use Rattle.yq_core.proofs.inline.Inline.find.Given as goal

abbrev pub invariant-steps : goal.invariant-steps
invariant-steps l = spec.placed_entry_at (map spec.tree_step (drop l.step-index l.steps)) (spec.entry_view l.found) ≡ spec.placed_entry_at (map spec.tree_step l.fn.steps) (None, inline_view l.fn.self)
