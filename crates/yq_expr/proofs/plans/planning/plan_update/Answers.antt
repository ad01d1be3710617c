use Rattle.std.proofs.Common.{sym, subst}
use Rattle.yq_planner.{specs.ValidChanges.HaveValidValues, proofs.ValidLaws.all_ops_valid}
use Rattle.yq_expr.proofs.plans.planning.plan_update.Goals as goal

pub returns-clause-valid : goal.returns-clause-valid
returns-clause-valid c = subst HaveValidValues (sym c.in_ok-operations.ensures) (all_ops_valid c.is_removal.result 0 c.in_ok-changes.changes.items c.in_ok-changes.ensures.valid)
