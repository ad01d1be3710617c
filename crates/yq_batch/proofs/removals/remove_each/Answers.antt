use Rattle.std.{proofs.Common.{◌∙◌, ℕ, List, refl, sym, subst}, proofs.lemmas.Result.err_from_is_err_and}
use Rattle.yq_text.specs.TextGapBuffer.{buffer_text}
use Rattle.yq_semantics.specs.Operations.{operation_of}
use Rattle.yq_edit_laws.{specs.Answers.EditFails, proofs.OperationsLaws.{first_fails, first_fits, others_come, others_served}}
use Rattle.yq_batch.{specs.Runs.{cut_with, stem_of}, specs.HeadPaths.MayRemoveOn, specs.RemovalRuns.{HasRemoved, RemovesSo}}
use Rattle.yq_batch.specs.declared.removals.RemovalRun.{RemovalRun}
use Rattle.yq_batch.proofs.removals.remove_each.Goals as goal

pub operations-init : goal.operations-init
operations-init c = record { whole = refl; serves = c.requires.serves; runs = c.requires.run }

pub remove_one-requires-clause-fits : goal.remove_one-requires-clause-fits
remove_one-requires-clause-fits c = first_fits c.operations.rest.now c.op-item.result (buffer_text c.operations.run.text) c.in-len1-up.len_at_least c.op-item.is c.operations.invariant.serves

pub returns-in_err-found-clause-err : goal.returns-in_err-found-clause-err
returns-in_err-found-clause-err c =
    let p = err_from_is_err_and c.from_residual.result c.from_residual.ensures.1 in
    let e = c.in_err-found.field-0.0 in
    rw (p.1, p.2) (subst (EditFails e) c.operations.invariant.whole
    (first_fails c.operations.rest.now c.op-item.result (buffer_text c.operations.run.text) c.operations.run.splices.items e c.in-len1-up.len_at_least c.op-item.is c.in_err-found.ensures.err))

pub operations-preserved : goal.operations-preserved
operations-preserved c =
    let t : List ℕ = buffer_text c.operations.run.text in
    let m : List ℕ = buffer_text c.remove_one.new.run.text in
    let on = subst (MayRemoveOn (operation_of c.op-item.result) c.args.at.now c.operations.run c.remove_one.new.run) c.in-Some.is c.in_ok-found.ensures.ok in
    record {
      whole =
          others_come c.operations.rest.now c.op-item.result t m c.operations.run.splices.items on.new_bytes c.remove_one.new.run.splices.items c.in-len1-up.len_at_least c.op-item.is on.comes on.splices
          ∙ c.operations.invariant.whole;
      serves = others_served c.operations.rest.now c.op-item.result t m on.new_bytes c.in-len1-up.len_at_least c.op-item.is c.operations.invariant.serves on.applied;
      runs = on.run;
    }

pub returns-in_default-found-clause-ok : goal.returns-in_default-found-clause-ok
returns-in_default-found-clause-ok c =
    subst (λ (r : RemovalRun). HasRemoved c.args.ops.now c.args.run.now c.operations.rest.now r
    × RemovesSo (cut_with c.args.at.now) c.args.at.now.doc (stem_of c.args.at.now) c.operations.known r) (sym (c.in_ok-found.ensures.stays c.in_default-found.is))
    (record { whole = c.operations.invariant.whole; serves = c.operations.invariant.serves }, c.operations.invariant.runs)

pub returns-clause-ok : goal.returns-clause-ok
returns-clause-ok c = (record { whole = c.operations.invariant.whole; serves = c.operations.invariant.serves }, c.operations.invariant.runs)
