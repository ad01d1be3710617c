use Rattle.std.proofs.Common.{◌≡◌, map, drop}
use Rattle.yq_semantics.specs.View.{program_step}
use Rattle.yq_expr.proofs.terms.same_term.are_same_steps.Given as goal

abbrev pub invariant-steps : goal.invariant-steps
invariant-steps l = record {
  same : map program_step (drop l.step-index l.steps) ≡ map program_step l.rest → map program_step l.steps ≡ map program_step l.others;
}
