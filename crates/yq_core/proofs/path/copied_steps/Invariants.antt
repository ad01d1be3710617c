use Rattle.std.proofs.Common.{◌≡◌, map, take}
use Rattle.yq_core.specs.Entries.{tree_step}
use Rattle.yq_core.proofs.path.copied_steps.Given as goal

abbrev pub invariant-each : goal.invariant-each
invariant-each l = map tree_step l.copies.items ≡ map tree_step (take l.step-index l.steps)
