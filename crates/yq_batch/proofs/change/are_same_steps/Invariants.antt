use Rattle.std.proofs.Common.{◌≡◌, length, map, take}
use Rattle.yq_core.specs.Entries.{tree_step}
use Rattle.yq_batch.proofs.change.are_same_steps.Given as goal

abbrev pub invariant-steps : goal.invariant-steps
invariant-steps l = (length l.some ≡ length l.others) × (map tree_step (take l.i l.some) ≡ map tree_step (take l.i l.others))
