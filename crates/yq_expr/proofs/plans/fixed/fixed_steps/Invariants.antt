use Rattle.std.proofs.Common.{◌≡◌, Some, map, take}
use Rattle.yq_core.specs.Entries.{tree_step}
use Rattle.yq_semantics.specs.View.{program_step}
use Rattle.yq_expr.specs.FixedPaths.{fixed_step}
use Rattle.yq_expr.proofs.plans.fixed.fixed_steps.Given as goal

abbrev pub invariant-each : goal.invariant-each
invariant-each l = map (λ s. fixed_step (program_step s)) (take l.step-index l.steps) ≡ map (λ s. Some (tree_step s)) l.fixed.items
