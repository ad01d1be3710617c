use Rattle.std.proofs.Common.{◌≡◌, length, map}
use Rattle.yq_core.specs.Entries.{tree_step}
use Rattle.yq_row_walk.proofs.known_line.are_same.Given as goal

abbrev pub decreases-steps : goal.decreases-steps
decreases-steps l = length l.left

-- the steps are the same where those that are left are
abbrev pub invariant-steps : goal.invariant-steps
invariant-steps l = map tree_step l.left ≡ map tree_step l.rest → map tree_step l.steps ≡ map tree_step l.others
