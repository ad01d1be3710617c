use Rattle.std.{proofs.Common.{ap, refl, sym, ◌∙◌, subst, eqb-true, List, ℕ, arith}, proofs.lemmas.Result.err_from_is_err_and}
use Rattle.yq_edit_laws.{specs.Answers.{Edits, EditFails}, specs.Edit.{edit_after, gives}}
use Rattle.yq_edit_laws.proofs.OperationsLaws.{last_comes, others_come, others_served, first_fails, first_fits, first_operand, none_come}
use Rattle.yq_edit_laws.proofs.ApplyLaws.{applied_by}
use Rattle.yq_semantics.specs.Operations.{operation_of}
use Rattle.yq_splice.proofs.carrying.carry_all.Goals as goal

pub operations-preserved : goal.operations-preserved
operations-preserved c = record {
  whole = others_come c.operations.rest.now c.op-item.result c.operations.session.text c.apply_valid.new.self.text c.operations.splices.items c.in_ok-next.next.items c.append.new.self.items
      c.in-len1-up.len_at_least c.op-item.is c.in_ok-next.ensures.ok c.in_ok-append.ensures.items ∙ c.operations.invariant.whole;
  serves = others_served c.operations.rest.now c.op-item.result c.operations.session.text c.apply_valid.new.self.text c.in_ok-next.next.items c.in-len1-up.len_at_least c.op-item.is c.operations.invariant.serves
      (applied_by (operation_of c.op-item.result) c.operations.session.text
      (first_operand c.operations.rest.now c.op-item.result c.in-len1-up.len_at_least c.op-item.is c.operations.invariant.serves.1.operands)
      (first_fits c.operations.rest.now c.op-item.result c.operations.session.text c.in-len1-up.len_at_least c.op-item.is c.operations.invariant.serves)
      c.apply_valid.new.self.text c.in_ok-next.next.items c.in_ok-next.ensures.ok);
}

pub returns-then-is_empty : goal.returns-then-is_empty
returns-then-is_empty c =
    let last = last_comes c.operations.rest.now c.op-item.result c.operations.session.text c.in-len1-up.len_at_least c.op-item.is (eqb-true _ 0 (sym c.is_empty.ensures ∙ c.if-is_empty.true)) in
    subst (Edits c.close_by.result) (ap (edit_after c.operations.splices.items) last ∙ c.operations.invariant.whole) c.close_by.ensures

pub operations-init : goal.operations-init
operations-init c = record { whole = rw c.reserve.ensures.items refl; serves = c.requires }

pub apply_valid-requires-clause-operand : goal.apply_valid-requires-clause-operand
apply_valid-requires-clause-operand c =
    first_operand c.operations.rest.now c.op-item.result c.in-len1-up.len_at_least c.op-item.is c.operations.invariant.serves.1.operands

pub apply_valid-requires-clause-fits : goal.apply_valid-requires-clause-fits
apply_valid-requires-clause-fits c = first_fits c.operations.rest.now c.op-item.result c.operations.session.text c.in-len1-up.len_at_least c.op-item.is c.operations.invariant.serves

pub returns-in_err-next : goal.returns-in_err-next
returns-in_err-next c =
    let p = err_from_is_err_and c.from_residual-in_err-next.result c.from_residual-in_err-next.ensures.1 in
    rw (p.1, p.2)
    (subst (EditFails c.in_err-next.field-0.0) c.operations.invariant.whole
    (first_fails c.operations.rest.now c.op-item.result c.operations.session.text c.operations.splices.items c.in_err-next.field-0.0 c.in-len1-up.len_at_least c.op-item.is c.in_err-next.ensures.err))

pub returns : goal.returns
returns c =
    sym c.operations.invariant.whole
    ∙ (none_come c.operations.rest.now c.operations.session.text c.operations.splices.items (omega (arith, c.in_default.len_below)) ∙ ap (λ (t : List ℕ). gives t c.operations.splices.items) (sym c.close.ensures))
