use Rattle.std.{proofs.Common.{◌∙◌, ℕ, List, refl, subst}, proofs.lemmas.Result.err_from_is_err_and}
use Rattle.yq_edit_laws.specs.Answers.{EditFails}
use Rattle.yq_edit_laws.proofs.OperationsLaws.{first_fails, first_fits, first_operand, others_come, others_served}
use Rattle.yq_batch.specs.FilledRuns.{filled_text}
use Rattle.yq_batch.proofs.heads.put_in_head.Goals as goal

pub operations-init : goal.operations-init
operations-init c = record { whole = refl; serves = c.requires.serves; runs = record { run = c.requires.run; filled = tt } }

pub carry_next-requires-clause-operand : goal.carry_next-requires-clause-operand
carry_next-requires-clause-operand c =
    first_operand c.operations.rest.now c.op-item.result c.in-len1-up.len_at_least c.op-item.is c.operations.invariant.serves.1.operands

pub carry_next-requires-clause-fits : goal.carry_next-requires-clause-fits
carry_next-requires-clause-fits c = first_fits c.operations.rest.now c.op-item.result (filled_text c.args.at.now c.operations.run) c.in-len1-up.len_at_least c.op-item.is c.operations.invariant.serves

pub returns-in_err-carry_next-clause-err : goal.returns-in_err-carry_next-clause-err
returns-in_err-carry_next-clause-err c =
    let p = err_from_is_err_and c.from_residual-in_err-carry_next.result c.from_residual-in_err-carry_next.ensures.1 in
    let e = c.in_err-carry_next.field-0.0 in
    rw (p.1, p.2) (subst (EditFails e) c.operations.invariant.whole
    (first_fails c.operations.rest.now c.op-item.result (filled_text c.args.at.now c.operations.run) c.operations.run.run.splices.items e c.in-len1-up.len_at_least c.op-item.is c.in_err-carry_next.ensures.err))

pub operations-preserved : goal.operations-preserved
operations-preserved c =
    let t : List ℕ = filled_text c.args.at.now c.operations.run in
    let m : List ℕ = filled_text c.args.at.now c.carry_next.new.run in
    let so = c.in_ok-carry_next.ensures.ok c.if-not-branch.false in
    let on = so.on in
    record {
      whole =
          others_come c.operations.rest.now c.op-item.result t m c.operations.run.run.splices.items on.new_bytes c.carry_next.new.run.run.splices.items c.in-len1-up.len_at_least c.op-item.is on.comes on.splices
          ∙ c.operations.invariant.whole;
      serves = others_served c.operations.rest.now c.op-item.result t m on.new_bytes c.in-len1-up.len_at_least c.op-item.is c.operations.invariant.serves on.applied;
      runs = record { run = on.run; filled = so.filled };
    }

pub returns-then-not-is_in_head-clause-ok : goal.returns-then-not-is_in_head-clause-ok
returns-then-not-is_in_head-clause-ok c = (record { whole = c.operations.invariant.whole; serves = c.operations.invariant.serves }, c.operations.invariant.runs.run)

pub returns-clause-ok : goal.returns-clause-ok
returns-clause-ok c = (record { whole = c.operations.invariant.whole; serves = c.operations.invariant.serves }, c.operations.invariant.runs.run)
