use Rattle.std.{proofs.Common.{sym, subst}, specs.Prelude.IfOk}
use Rattle.yq_semantics.specs.View.{program_of}
use Rattle.yq_expr.specs.PlannedUpdates.{AllFitIn}
use Rattle.yq_api_tests.proofs.FittingLaws.{first_fits}
use Rattle.yq_api_tests.proofs.sessions.planned.Goals as goal

pub returns : goal.returns
returns c =
    first_fits c.args.text.now _ c.in_ok-documents.documents (program_of c.args.program.now) c.in_ok-ops.ops.items
    c.as_bytes.ensures.value c.in_ok-documents.ensures.text c.in_ok-documents.ensures.found c.requires
    (λ u is. subst (λ r. IfOk r (λ ops. AllFitIn ops.items c.in_ok-documents.documents)) (sym c.in_ok-ops.ensures) (c.plan.ensures.fits u is))
