use Rattle.std.{proofs.Common.{◌≡◌, ◌∙◌, ℕ, List, length, map, sym, ap, subst}, proofs.lemmas.Result.err_from_is_err_and}
use Rattle.yq_core.specs.Entries.{tree_step}
use Rattle.yq_text.specs.TextGapBuffer.{buffer_text}
use Rattle.yq_semantics.{specs.Operations.Operation, specs.Under.ops_under}
use Rattle.yq_edit_laws.{specs.Carried.{carried, carry_all}, specs.Edit.edit_after, specs.Valid.AreServed, proofs.OrderLaws.following_none}
use Rattle.yq_edit_laws.{specs.Answers.EditFails, specs.Theorems.IsFitting}
use Rattle.yq_batch.{specs.Runs.{cut_with, stem_of}, specs.HeadPaths.MayRemoveOn, specs.RemovalRuns.RemovesOn, specs.RowRemovals.removal_of}
use Rattle.yq_batch.{proofs.ChildRemovals.{child_ends, child_is}, proofs.RemovalAnswers.removals_begin}
use Rattle.yq_batch.proofs.UnderLaws.{first_fails, first_fits, others_come, others_served}
use Rattle.yq_batch.proofs.removals.remove_children.Goals as goal

pub operations-init : goal.operations-init
operations-init c =
    let t : List ℕ = c.args.at.now.cut.now in
    let text : buffer_text c.in_ok-run.run'.text ≡ t = c.in_ok-run.ensures.text ∙ c.text.ensures.text in
    record {
      begins = c.in_ok-path.ensures;
      whole = (λ i. edit_after (c.in_ok-run.ensures.splices i) (carry_all (ops_under c.args.front.now c.args.ops.now) (text i))) ∙ following_none (carry_all (ops_under c.args.front.now c.args.ops.now) t);
      serves = subst (AreServed (ops_under c.args.front.now c.args.ops.now)) (sym text) c.requires.serves;
      runs = removals_begin t c.args.at.now.doc (stem_of c.args.at.now) c.in_ok-run.run' c.requires.there.read c.requires.there.reports.leads text (c.in_ok-run.ensures.keep ∙ ap length c.text.ensures.text);
    }

pub remove_at-requires-clause-ends : goal.remove_at-requires-clause-ends
remove_at-requires-clause-ends c =
    child_ends c.args.front.now c.args.at.now.doc c.op-item.result (c.takes_from.ensures c.if-not-takes_from.false) c.placed-own.result.path.now
    c.placed-own.result.op.now c.placed-own.ensures (stem_of c.args.at.now) (map tree_step c.args.at.now.head.left.now) c.requires.front

pub remove_at-requires-clause-fits : goal.remove_at-requires-clause-fits
remove_at-requires-clause-fits c =
    subst (λ (o : Operation). IsFitting o (buffer_text c.operations.run.text))
    (child_is c.args.front.now c.args.at.now.doc c.op-item.result (c.takes_from.ensures c.if-not-takes_from.false) c.placed-own.result.path.now
    c.placed-own.result.op.now c.placed-own.ensures)
    (first_fits c.args.front.now c.operations.rest.now c.op-item.result (buffer_text c.operations.run.text) c.in-len1-up.len_at_least c.op-item.is c.operations.invariant.serves)

pub returns-in_err-found-clause-err : goal.returns-in_err-found-clause-err
returns-in_err-found-clause-err c =
    let e = c.in_err-found.field-0.0 in
    let p = err_from_is_err_and c.from_residual-in_err-found.result c.from_residual-in_err-found.ensures.1 in
    let t : List ℕ = buffer_text c.operations.run.text in
    let own = subst (λ (o : Operation). EditFails e (carried o t))
    (sym (child_is c.args.front.now c.args.at.now.doc c.op-item.result (c.takes_from.ensures c.if-not-takes_from.false) c.placed-own.result.path.now
    c.placed-own.result.op.now c.placed-own.ensures)) c.in_err-found.ensures.err in
    rw (p.1, p.2) (subst (EditFails e) c.operations.invariant.whole (first_fails c.args.front.now c.operations.rest.now c.op-item.result t c.operations.run.splices.items e c.in-len1-up.len_at_least c.op-item.is own))

pub operations-preserved : goal.operations-preserved
operations-preserved c =
    let t : List ℕ = buffer_text c.operations.run.text in
    let m : List ℕ = buffer_text c.remove_at.new.run.text in
    let gone = subst (MayRemoveOn (removal_of c.placed-own.result.path.now) c.args.at.now c.operations.run c.remove_at.new.run) c.in-Some.is c.in_ok-found.ensures.ok in
    let on = subst (λ (o : Operation). RemovesOn o (cut_with c.args.at.now) c.args.at.now.doc (stem_of c.args.at.now) c.operations.run c.in-Some.left c.remove_at.new.run)
    (sym (child_is c.args.front.now c.args.at.now.doc c.op-item.result (c.takes_from.ensures c.if-not-takes_from.false) c.placed-own.result.path.now
    c.placed-own.result.op.now c.placed-own.ensures)) gone in
    record {
      begins = c.in_ok-lead_on.ensures.stays;
      whole =
          others_come c.args.front.now c.operations.rest.now c.op-item.result t m c.operations.run.splices.items on.new_bytes c.remove_at.new.run.splices.items c.in-len1-up.len_at_least c.op-item.is on.comes on.splices
          ∙ c.operations.invariant.whole;
      serves = others_served c.args.front.now c.operations.rest.now c.op-item.result t m on.new_bytes c.in-len1-up.len_at_least c.op-item.is c.operations.invariant.serves on.applied;
      runs = on.run;
    }
