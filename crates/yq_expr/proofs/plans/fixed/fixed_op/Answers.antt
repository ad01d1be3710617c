use Rattle.std.proofs.Common.{sym, subst, rules}
use Rattle.yq_expr.specs.FixedPaths.{IfAny, IsOpOf}
use Rattle.yq_semantics.specs.declared.program.Update as declared_update
use Rattle.yq_expr.proofs.plans.fixed.fixed_op.Goals as goal

pub returns-in-Assign : goal.returns-in-Assign
returns-in-Assign c = subst (λ (u : declared_update.Update). IfAny c.put_scalar.result (IsOpOf u)) (sym c.in-Assign.is) c.put_scalar.ensures

pub returns-in-Delete : goal.returns-in-Delete
returns-in-Delete c = search rules

pub returns-in-Comment : goal.returns-in-Comment
returns-in-Comment c = c.comment_one.ensures
