use Rattle.std.{proofs.Common.{◌≡◌, drop}, specs.List.list_any}
use Rattle.yq_semantics.specs.View.{program_step}
use Rattle.yq_expr.specs.ManyKeys.{is_long_step}
use Rattle.yq_expr.proofs.plans.many_keys.some_step_is_long.Given as goal

abbrev pub invariant-steps : goal.invariant-steps
invariant-steps l = list_any (λ s. is_long_step (program_step s.now)) (drop l.step-index l.steps) ≡ list_any (λ s. is_long_step (program_step s.now)) l.steps
