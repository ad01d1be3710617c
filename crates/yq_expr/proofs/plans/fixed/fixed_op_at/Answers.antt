use Rattle.yq_expr.proofs.FixedLaws.{any_valid}
use Rattle.yq_expr.proofs.plans.fixed.fixed_op_at.Goals as goal

pub returns-in-Updates-clause-valid : goal.returns-in-Updates-clause-valid
returns-in-Updates-clause-valid c = any_valid _ c.fixed_op.result c.fixed_op.ensures
