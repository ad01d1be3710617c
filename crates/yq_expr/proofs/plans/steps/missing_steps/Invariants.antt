use Rattle.std.proofs.Common.{◌≡◌, ◌++◌, length, map, reverse}
use Rattle.yq_eval.specs.PlaceView.{missing_of}
use Rattle.yq_semantics.specs.View.{program_step}
use Rattle.yq_expr.proofs.plans.steps.missing_steps.Given as goal

abbrev pub invariant-steps : goal.invariant-steps
invariant-steps l = missing_of l.rest ++ reverse (map (λ s. program_step s.now) l.steps.items) ≡ missing_of l.fn.missing

abbrev pub decreases-steps : goal.decreases-steps
decreases-steps l = length (missing_of l.rest)
