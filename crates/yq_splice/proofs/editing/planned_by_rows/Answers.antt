use Rattle.std.proofs.Common.{List, ℕ, sym, subst}
use Rattle.yq_documents.specs.Reading.{documents_of}
use Rattle.yq_expr.specs.FixedPaths.{IfAny, IsSole, PlansAlone}
use Rattle.yq_splice.proofs.UpdateSteps.{any_so}
use Rattle.yq_splice.proofs.editing.planned_by_rows.Goals as goal

pub plan_by_rows-requires : goal.plan_by_rows-requires
plan_by_rows-requires c = subst (λ (x : List ℕ). IsSole (documents_of x)) (sym c.of-cut.ensures) (c.is_sole.ensures c.if-not-is_sole.false)

pub returns-clause-sole : goal.returns-clause-sole
returns-clause-sole c = any_so (IsSole (documents_of c.args.documents.now)) c.plan_by_rows.result (c.is_sole.ensures c.if-not-is_sole.false)

pub returns-clause-plans : goal.returns-clause-plans
returns-clause-plans c = subst (λ (x : List ℕ). IfAny c.plan_by_rows.result (PlansAlone c.args.nth c.args.program.now x)) c.of-cut.ensures c.plan_by_rows.ensures.plans
