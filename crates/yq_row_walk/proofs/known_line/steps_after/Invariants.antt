use Rattle.std.proofs.Common.{◌≡◌, ◌++◌, List, length, map}
use Rattle.yq_core.{specs.Entries.tree_step, specs.Paths.Step}
use Rattle.yq_row_walk.proofs.known_line.steps_after.Given as goal

abbrev pub decreases-steps : goal.decreases-steps
decreases-steps l = length l.rest

-- what comes after the others comes after those of them that are left
abbrev pub invariant-steps : goal.invariant-steps
invariant-steps l = (after : List Step) → map tree_step l.left ≡ map tree_step l.rest ++ after → map tree_step l.steps ≡ map tree_step l.front ++ after
