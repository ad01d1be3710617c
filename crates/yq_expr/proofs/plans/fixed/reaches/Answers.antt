use Rattle.std.proofs.Common.{◌≡◌, true, IfOk, sym, subst}
use Rattle.yq_expr.specs.FixedPaths.{FindsNodeIn}
use Rattle.yq_semantics.specs.declared.op.Op as declared_op
use Rattle.yq_expr.proofs.plans.fixed.reaches.Goals as goal

pub returns-in-Replace-clause-is : goal.returns-in-Replace-clause-is
returns-in-Replace-clause-is c = subst (λ (o : declared_op.Op). IfOk c.leads.result (λ b. b ≡ true → FindsNodeIn c.args.cut.now o)) (sym c.in-Replace.is) c.leads.ensures.is

pub returns-in-Remove-clause-is : goal.returns-in-Remove-clause-is
returns-in-Remove-clause-is c = subst (λ (o : declared_op.Op). IfOk c.leads-in-Remove.result (λ b. b ≡ true → FindsNodeIn c.args.cut.now o)) (sym c.in-Remove.is) c.leads-in-Remove.ensures.is

pub returns-in-LineComment-clause-is : goal.returns-in-LineComment-clause-is
returns-in-LineComment-clause-is c = subst (λ (o : declared_op.Op). IfOk c.leads_with_room.result (λ b. b ≡ true → FindsNodeIn c.args.cut.now o)) (sym c.in-LineComment.is) c.leads_with_room.ensures.is

pub returns-in-HeadComment-clause-is : goal.returns-in-HeadComment-clause-is
returns-in-HeadComment-clause-is c = subst (λ (o : declared_op.Op). IfOk c.leads_with_room-in-HeadComment.result (λ b. b ≡ true → FindsNodeIn c.args.cut.now o)) (sym c.in-HeadComment.is) c.leads_with_room-in-HeadComment.ensures.is
