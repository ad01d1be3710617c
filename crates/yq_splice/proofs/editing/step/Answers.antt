use Rattle.std.{proofs.Common.{◌≡◌, ℕ, List, Ok, Some, IfErr, IfOk, sym, ap, subst, ◌∙◌}, proofs.lemmas.Result.err_from_is_err_and}
use Rattle.std.{specs.Prelude.Vec, specs.declared.alloc.Global.Global}
use Rattle.yq_documents.specs.Reading.{cut_of, documents, read_at}
use Rattle.yq_semantics.{specs.Operations.Operation, specs.Under.all_under, specs.View.program_of, specs.declared.under.OpsUnder.OpsUnder}
use Rattle.yq_semantics.proofs.updates.PlanAnswers.{literals_hold}
use Rattle.yq_planner.specs.ValidChanges.{HaveValidValues}
use Rattle.yq_expr.specs.PlannedUpdates.{JudgesParts}
use Rattle.yq_edit_laws.{specs.Answers.Edits, specs.Carried.carry_all, specs.Edit.edit_after, specs.Valid.HaveOperands}
use Rattle.yq_edit_laws.proofs.MeaningLaws.{plan_serves}
use Rattle.yq_edit_laws.proofs.UpdateLaws.{update_unplanned, update_planned, update_there, update_ok, update_err}
use Rattle.yq_splice.{proofs.PartLaws.weighing_fails, proofs.ValidOperands.parts_valid}
use Rattle.yq_failure.specs.declared.failure.Failure.TheVariants as failure
use Rattle.yq_splice.proofs.editing.step.Goals as goal

pub returns-in_err-plan-clause-err : goal.returns-in_err-plan-clause-err
returns-in_err-plan-clause-err c =
    let p = err_from_is_err_and c.from_residual-in_err-plan.result c.from_residual-in_err-plan.ensures.1 in
    let text = c.requires.same in
    let is : read_at c.args.text.now ≡ Some (cut_of c.args.documents) = c.requires.read in
    rw (p.1, p.2)
    (λ u at. update_unplanned (λ (v : Vec OpsUnder Global). all_under v.items) u c.args.text.now c.args.documents _ is text
    (subst (λ r. JudgesParts r u c.args.documents) (sym c.in_err-plan.ensures) (c.plan_under-planned.ensures.exact u at)))

pub carry_plan-requires-clause-serves : goal.carry_plan-requires-clause-serves
carry_plan-requires-clause-serves c =
    let t : List ℕ = c.args.text.now in
    let d : List ℕ = c.args.documents in
    let ops : List Operation = all_under c.in_ok-plan.plan.items in
    let text : d ≡ t = c.requires.same in
    let is : read_at t ≡ Some (cut_of d) = c.requires.read in
    let valid : HaveOperands ops = parts_valid c.in_ok-plan.plan.items
    (subst (λ r. IfOk r (λ v. HaveValidValues (all_under v.items))) (sym c.in_ok-plan.ensures) c.plan_under-planned.ensures.valid) in
    let u = update_there (program_of c.args.program.now) c.args.nth c.requires.within in (
      documents (cut_of d),
      plan_serves u.0 t (cut_of d) is ops
          (update_planned u.0 t d ops text
          (subst (λ r. JudgesParts r u.0 c.args.documents) (sym c.in_ok-plan.ensures) (c.plan_under-planned.ensures.exact u.0 u.1))) valid
          (literals_hold (program_of c.args.program.now) c.args.nth u.0 c.requires.literals u.1),
    )

pub returns-clause-ok : goal.returns-clause-ok
returns-clause-ok c =
    let t : List ℕ = c.args.text.now in
    let d : List ℕ = c.args.documents in
    let ops : List Operation = all_under c.in_ok-plan.plan.items in
    let text : d ≡ t = c.requires.same in
    let is : read_at t ≡ Some (cut_of d) = c.requires.read in
    let valid : HaveOperands ops = parts_valid c.in_ok-plan.plan.items
    (subst (λ r. IfOk r (λ v. HaveValidValues (all_under v.items))) (sym c.in_ok-plan.ensures) c.plan_under-planned.ensures.valid) in
    let new_bytes : Edits c.carry_plan.result (edit_after c.args.splices.items (carry_all ops t)) = c.carry_plan.ensures in
    rw c.unnamed-2.ensures (λ u at. update_ok u t (cut_of d) ops is (update_planned u t d ops text (subst (λ r. JudgesParts r u c.args.documents) (sym c.in_ok-plan.ensures) (c.plan_under-planned.ensures.exact u at)))
    (literals_hold (program_of c.args.program.now) c.args.nth u c.requires.literals at) valid c.carry_plan.result c.args.splices.items new_bytes)

pub returns-clause-err : goal.returns-clause-err
returns-clause-err c =
    let t : List ℕ = c.args.text.now in
    let d : List ℕ = c.args.documents in
    let ops : List Operation = all_under c.in_ok-plan.plan.items in
    let text : d ≡ t = c.requires.same in
    let is : read_at t ≡ Some (cut_of d) = c.requires.read in
    let valid : HaveOperands ops = parts_valid c.in_ok-plan.plan.items
    (subst (λ r. IfOk r (λ v. HaveValidValues (all_under v.items))) (sym c.in_ok-plan.ensures) c.plan_under-planned.ensures.valid) in
    let new_bytes : Edits c.carry_plan.result (edit_after c.args.splices.items (carry_all ops t)) = c.carry_plan.ensures in
    rw c.unnamed-2.ensures (λ u at. update_err u t (cut_of d) ops is (update_planned u t d ops text (subst (λ r. JudgesParts r u c.args.documents) (sym c.in_ok-plan.ensures) (c.plan_under-planned.ensures.exact u at)))
    (literals_hold (program_of c.args.program.now) c.args.nth u c.requires.literals at) valid c.carry_plan.result c.args.splices.items new_bytes)

pub returns-in_err-heavy-clause-err : goal.returns-in_err-heavy-clause-err
returns-in_err-heavy-clause-err c =
    let p = err_from_is_err_and c.from_residual.result c.from_residual.ensures.1 in
    rw (p.1, p.2)
    (λ u at. weighing_fails c.in_err-heavy.field-0.0 u c.args.text.now (subst (λ r. IfErr r (λ e. e ≡ failure.Memory)) (sym c.in_err-heavy.ensures) c.is_heavy.ensures.err))

pub step_in_parts-requires-clause-same : goal.step_in_parts-requires-clause-same
step_in_parts-requires-clause-same c = c.requires.same

pub step_in_parts-requires-clause-read : goal.step_in_parts-requires-clause-read
step_in_parts-requires-clause-read c =
    let text : c.args.documents ≡ c.args.text.now = c.requires.same in
    c.requires.read ∙ ap (λ (x : List ℕ). Some (cut_of x)) text

pub step_in_parts-requires-clause-order : goal.step_in_parts-requires-clause-order
step_in_parts-requires-clause-order c = λ u at. c.is_heavy.ensures.heavy (sym c.in_ok-heavy.ensures ∙ ap Ok c.if-heavy.true) u at
