use Rattle.std.proofs.Common.{◌≡◌, drop, map}
use Rattle.yq_core.specs.Entries.{tree_step}
use Rattle.yq_inline.specs.Along.{all_in, front_read}
use Rattle.yq_inline.proofs.along.front_along.Given as goal

abbrev pub invariant-steps : goal.invariant-steps
invariant-steps l = all_in (map tree_step (drop l.step-index l.steps)) (front_read l.found) ≡ all_in (map tree_step l.fn.steps) (front_read l.fn.node)
