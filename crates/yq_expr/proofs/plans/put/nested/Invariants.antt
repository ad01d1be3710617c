use Rattle.std.proofs.Common.{◌≡◌, ◌≤◌, length, map}
use Rattle.yq_core.specs.Values.{value_node}
use Rattle.yq_semantics.{specs.Changes.nested, specs.View.program_step}
use Rattle.yq_expr.proofs.plans.put.nested.Given as goal

abbrev pub invariant-steps : goal.invariant-steps
invariant-steps l = record {
  short : length l.rest ≤ length l.steps;
  so_far : nested (map (λ s. program_step s.now) l.rest) (value_node l.nested) ≡ nested (map (λ s. program_step s.now) l.steps) (value_node l.fn.value);
}

abbrev pub decreases-steps : goal.decreases-steps
decreases-steps l = length l.rest
