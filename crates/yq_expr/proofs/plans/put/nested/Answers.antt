use Rattle.std.proofs.Common.{rules}
use Rattle.yq_core.specs.Values.{value_node}
use Rattle.yq_semantics.specs.View.{program_step}
use Rattle.yq_expr.proofs.ChangeLaws.{one_out}
use Rattle.yq_expr.proofs.plans.put.nested.Goals as goal

pub steps-preserved : goal.steps-preserved
steps-preserved c = record {
  short = search rules;
  so_far = one_out (λ s. program_step s.now) c.steps.rest.now c.last-item.result (value_node c.steps.nested) (value_node c.in_ok-nested.nested) _ c.in-len1-up.len_at_least c.last-item.is c.in_ok-nested.ensures c.steps.invariant.so_far;
}
