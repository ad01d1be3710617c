use Rattle.std.{proofs.Common.{◌≡◌, ◌+◌, ◌<◌, ℕ, List, IfSome, sym, ap, ◌∙◌, subst, arith}, proofs.lemmas.Result.err_from_is_err_and}
use Rattle.yq_documents.specs.Reading.{documents_of}
use Rattle.yq_semantics.{specs.Operations.operation_of, specs.Program.update_count, specs.View.program_of}
use Rattle.yq_semantics.proofs.updates.PlanAnswers.{literals_hold}
use Rattle.yq_expr.specs.FixedPaths.{IsSole, PlansAlone}
use Rattle.yq_edit_laws.{specs.Theorems.HasReading, proofs.UpdateLaws.update_there}
use Rattle.yq_splice.{specs.Session.SessionState, specs.Updates.HaveLed}
use Rattle.yq_splice.{proofs.UpdateSteps.{led_fails, led_more, one_done, one_fails, one_fits, sole_on}, proofs.ValidOperands.operand_valid}
use Rattle.yq_splice.proofs.updating.update_session.Goals as goal

pub updates-init : goal.updates-init
updates-init c = record {
  from = omega arith;
  count = c.updates-count.ensures;
  within = c.requires.within;
  plans = c.requires.plans;
  reads = c.requires.read;
  sole = c.requires.sole;
  leads = λ t led. led;
}

pub apply_valid-requires-clause-fits : goal.apply_valid-requires-clause-fits
apply_valid-requires-clause-fits c =
    let u = update_there (program_of c.args.program.now) c.updates.done c.updates.invariant.within in
    one_fits u.0 c.updates.session.text (operation_of c.updates.op) c.updates.invariant.reads (c.updates.invariant.plans.plans u.0 u.1) (literals_hold (program_of c.args.program.now) c.updates.done u.0 c.requires.literals u.1)

pub apply_valid-requires-clause-operand : goal.apply_valid-requires-clause-operand
apply_valid-requires-clause-operand c = operand_valid c.updates.op c.updates.invariant.plans.valid

pub returns-in_err-added-clause-err : goal.returns-in_err-added-clause-err
returns-in_err-added-clause-err c =
    let p = err_from_is_err_and c.from_residual.result c.from_residual.ensures.1 in
    rw (p.1, p.2)
    (λ t led. led_fails (program_of c.args.program.now) c.updates.done t c.updates.session.text c.updates.splices.items _ c.updates.invariant.within (c.updates.invariant.leads t led)
    (λ u at. one_fails u c.updates.session.text (operation_of c.updates.op) c.updates.invariant.reads (c.updates.invariant.plans.plans u at)
    (literals_hold (program_of c.args.program.now) c.updates.done u c.requires.literals at) (operand_valid c.updates.op c.updates.invariant.plans.valid) _ c.in_err-added.ensures.err))

pub plan-requires : goal.plan-requires
plan-requires c =
    let u = update_there (program_of c.args.program.now) c.updates.done c.updates.invariant.within in
    let holds = literals_hold (program_of c.args.program.now) c.updates.done u.0 c.requires.literals u.1 in
    let step = one_done u.0 c.updates.session.text (operation_of c.updates.op) c.updates.invariant.reads (c.updates.invariant.plans.plans u.0 u.1) holds
    (operand_valid c.updates.op c.updates.invariant.plans.valid) c.apply_valid.new.self.text c.in_ok-added.added.items c.in_ok-added.ensures.ok in
    sole_on u.0 c.updates.session.text c.apply_valid.new.self.text c.in_ok-added.added.items holds step.is c.updates.invariant.sole

pub updates-preserved : goal.updates-preserved
updates-preserved c =
    let u = update_there (program_of c.args.program.now) c.updates.done c.updates.invariant.within in
    let holds = literals_hold (program_of c.args.program.now) c.updates.done u.0 c.requires.literals u.1 in
    let step = one_done u.0 c.updates.session.text (operation_of c.updates.op) c.updates.invariant.reads (c.updates.invariant.plans.plans u.0 u.1) holds
    (operand_valid c.updates.op c.updates.invariant.plans.valid) c.apply_valid.new.self.text c.in_ok-added.added.items c.in_ok-added.ensures.ok in
    let same : c.plan.new.self.text ≡ c.apply_valid.new.self.text = ap (λ (s : SessionState). s.text) c.in_ok-next.ensures.same in
    let text = λ (P : List ℕ → Type 0) (x : P c.apply_valid.new.self.text). subst P (sym same) x in
    record {
      from = omega (arith, c.updates.invariant.from);
      count = c.updates.invariant.count;
      within = subst (λ o. IfSome o (λ _. c.updates.done + 1 < update_count (program_of c.args.program.now))) c.in-Some.is c.in_ok-next.ensures.within;
      plans = text (λ x. PlansAlone (c.updates.done + 1) c.args.program.now x c.in-Some.planned)
          (subst (λ o. IfSome o (PlansAlone (c.updates.done + 1) c.args.program.now c.apply_valid.new.self.text)) c.in-Some.is
          c.in_ok-next.ensures.plans);
      reads = text HasReading (step.is.after, step.is.reads);
      sole = text (λ x. IsSole (documents_of x)) (sole_on u.0 c.updates.session.text c.apply_valid.new.self.text c.in_ok-added.added.items holds step.is c.updates.invariant.sole);
      leads = λ t led. text (λ x. HaveLed (program_of c.args.program.now) t (c.updates.done + 1) x c.append.new.self.items)
          (led_more (program_of c.args.program.now) c.updates.done t c.updates.session.text c.apply_valid.new.self.text c.updates.splices.items c.append.new.self.items c.updates.invariant.within (c.updates.invariant.leads t led)
          (λ v at. (
            c.in_ok-added.added.items,
            one_done v c.updates.session.text (operation_of c.updates.op) c.updates.invariant.reads (c.updates.invariant.plans.plans v at)
                (literals_hold (program_of c.args.program.now) c.updates.done v c.requires.literals at) (operand_valid c.updates.op c.updates.invariant.plans.valid) c.apply_valid.new.self.text
                c.in_ok-added.added.items c.in_ok-added.ensures.ok,
            c.in_ok-append.ensures.items,
          )));
    }

pub returns-clause-ok : goal.returns-clause-ok
returns-clause-ok c =
    let same : c.plan.new.self.text ≡ c.apply_valid.new.self.text = ap (λ (s : SessionState). s.text) c.in_ok-next.ensures.same in
    λ t led. subst (λ (x : List ℕ). HaveLed (program_of c.args.program.now) t (c.updates.done + 1) x c.append.new.self.items) (sym (c.close-text.ensures ∙ same))
    (led_more (program_of c.args.program.now) c.updates.done t c.updates.session.text c.apply_valid.new.self.text c.updates.splices.items c.append.new.self.items c.updates.invariant.within (c.updates.invariant.leads t led)
    (λ u at. (
      c.in_ok-added.added.items,
      one_done u c.updates.session.text (operation_of c.updates.op) c.updates.invariant.reads (c.updates.invariant.plans.plans u at)
          (literals_hold (program_of c.args.program.now) c.updates.done u c.requires.literals at) (operand_valid c.updates.op c.updates.invariant.plans.valid) c.apply_valid.new.self.text
          c.in_ok-added.added.items c.in_ok-added.ensures.ok,
      c.in_ok-append.ensures.items,
    )))
