use Rattle.std.proofs.Common.{IfSome, subst}
use Rattle.yq_semantics.specs.Operations.{operation_of}
use Rattle.yq_planner.specs.ValidChanges.{HasValidValue}
use Rattle.yq_expr.{specs.FixedPaths.IsFixedOp, proofs.FixedLaws.fixed_only}
use Rattle.yq_expr.proofs.plans.fixed.plan_by_rows.Goals as goal

pub returns-clause-plans : goal.returns-clause-plans
returns-clause-plans c = record {
  plans = λ u at. fixed_only c.args.cut.now u (operation_of c.in-Some.op) c.text-text.ensures.read c.requires
      (subst (λ o. IfSome o (λ x. IsFixedOp u (operation_of x))) c.in-Some.is (c.in_ok-planned.ensures.fixed u at))
      (c.in_ok-reaches.ensures.is c.if-not-branch.false);
  valid = subst (λ o. IfSome o (λ x. HasValidValue (operation_of x))) c.in-Some.is c.in_ok-planned.ensures.valid;
}
