use Rattle.std.{proofs.Common.{◌≡◌, ◌∙◌, ℕ, List, Option, length, slice_index_or, sym, ap, subst}, proofs.lemmas.Result.err_from_is_err_and}
use Rattle.yq_text.specs.TextGapBuffer.{buffer_text}
use Rattle.yq_semantics.{specs.Operations.Operation, specs.declared.op.Op.Op, specs.Under.ops_under}
use Rattle.yq_documents.specs.Reading.{cut_of}
use Rattle.yq_edit_laws.{specs.Carried.{carried, carry_all}, specs.Edit.edit_after, specs.Valid.AreServed, proofs.OrderLaws.following_none}
use Rattle.yq_edit_laws.{specs.Answers.EditFails, specs.Theorems.IsFitting}
use Rattle.yq_batch.{proofs.UnderLaws.{first_fails, first_fits, others_come, others_served}, specs.RowRemovals.{GoesOnWithout, RemovesRows}}
use Rattle.yq_batch.{specs.declared.changed_rows.ChangedRows.ChangedRows, proofs.RowRunBegins.row_run_begins}
use Rattle.yq_batch.proofs.RowRemovalAnswers.{first_is, first_on, others_beside, run_there}
use Rattle.yq_batch.proofs.row_removals.remove_under.Goals as goal

pub operations-init : goal.operations-init
operations-init c =
    let t : List ℕ = c.args.cut.now in
    let text : buffer_text c.in_ok-run.run'.text ≡ t = c.in_ok-run.ensures.text ∙ c.text.ensures.text in
    record {
      same = c.again-way.ensures;
      begins = c.in_ok-path.ensures;
      whole = (λ i. edit_after (c.in_ok-run.ensures.splices i) (carry_all (ops_under c.args.front.now c.args.ops.now) (text i))) ∙ following_none (carry_all (ops_under c.args.front.now c.args.ops.now) t);
      serves = subst (AreServed (ops_under c.args.front.now c.args.ops.now)) (sym text) c.requires;
      runs = row_run_begins t c.args.doc _ c.in_ok-run.run' c.text.ensures.read text (c.in_ok-run.ensures.keep ∙ ap length c.text.ensures.text);
    }

pub take_out-requires-clause-run : goal.take_out-requires-clause-run
take_out-requires-clause-run c =
    subst (λ (v : List ℕ). RemovesRows (cut_of v) c.placed-at.result.path.now.doc c.operations.changed c.operations.run) (sym (c.go_to.ensures ∙ c.operations.invariant.same))
    (run_there c.args.front.now c.operations.rest.now c.args.doc c.in-Some.op.now c.in-Some.beside c.in-Some.ensures c.placed-at.result.path.now
    c.placed-at.result.op.now c.placed-at.ensures (cut_of c.args.cut.now) c.operations.changed c.operations.run c.operations.invariant.runs)

pub take_out-requires-clause-others : goal.take_out-requires-clause-others
take_out-requires-clause-others c =
    λ is. others_beside c.args.front.now c.operations.rest.now c.args.doc c.in-Some.op.now c.in-Some.beside c.in-Some.ensures
    c.placed-at.result.path.now c.placed-at.result.op.now c.placed-at.ensures is (buffer_text c.operations.run.text) c.operations.invariant.serves

pub take_out-requires-clause-fits : goal.take_out-requires-clause-fits
take_out-requires-clause-fits c =
    let h = c.in-Some.ensures in
    let at : c.in-Some.op.now ≡ slice_index_or c.operations.rest.now 0 c.in-Some.op.now = ap (λ (os : List Op). slice_index_or os 0 c.in-Some.op.now) (sym h.ops_are) in
    subst (λ (o : Operation). IsFitting o (buffer_text c.operations.run.text))
    (first_is c.args.front.now c.operations.rest.now c.args.doc c.in-Some.op.now c.in-Some.beside c.in-Some.ensures c.placed-at.result.path.now
    c.placed-at.result.op.now c.placed-at.ensures)
    (first_fits c.args.front.now c.operations.rest.now c.in-Some.op.now (buffer_text c.operations.run.text) c.in-len1-up.len_at_least at c.operations.invariant.serves)

pub returns-in_err-next-clause-err : goal.returns-in_err-next-clause-err
returns-in_err-next-clause-err c =
    let h = c.in-Some.ensures in
    let e = c.in_err-next.field-0.0 in
    let at : c.in-Some.op.now ≡ slice_index_or c.operations.rest.now 0 c.in-Some.op.now = ap (λ (os : List Op). slice_index_or os 0 c.in-Some.op.now) (sym h.ops_are) in
    let p = err_from_is_err_and c.from_residual-in_err-next.result c.from_residual-in_err-next.ensures.1 in
    let t : List ℕ = buffer_text c.operations.run.text in
    let own = subst (λ (o : Operation). EditFails e (carried o t))
    (sym (first_is c.args.front.now c.operations.rest.now c.args.doc c.in-Some.op.now c.in-Some.beside c.in-Some.ensures
    c.placed-at.result.path.now c.placed-at.result.op.now c.placed-at.ensures)) c.in_err-next.ensures.err in
    rw (p.1, p.2) (subst (EditFails e) c.operations.invariant.whole (first_fails c.args.front.now c.operations.rest.now c.in-Some.op.now t c.operations.run.splices.items e c.in-len1-up.len_at_least at own))

pub operations-preserved : goal.operations-preserved
operations-preserved c =
    let t : List ℕ = buffer_text c.operations.run.text in
    let m : List ℕ = buffer_text c.take_out.new.run.text in
    let h = c.in-Some.ensures in
    let at : c.in-Some.op.now ≡ slice_index_or c.operations.rest.now 0 c.in-Some.op.now = ap (λ (os : List Op). slice_index_or os 0 c.in-Some.op.now) (sym h.ops_are) in
    let gone = subst (λ (o : Option ChangedRows). GoesOnWithout c.placed-at.result.path.now (cut_of c.go_to.new.cut) c.operations.run o c.take_out.new.run) c.in-Some-2.is c.in_ok-next.ensures.ok in
    let on = first_on c.args.front.now c.operations.rest.now c.args.doc c.in-Some.op.now c.in-Some.beside c.in-Some.ensures
    c.placed-at.result.path.now c.placed-at.result.op.now c.placed-at.ensures (cut_of c.go_to.new.cut) c.operations.run c.in-Some-2.next
    c.take_out.new.run gone in
    record {
      same = c.go_to.ensures ∙ c.operations.invariant.same;
      begins = c.in_ok-lead_on.ensures.stays;
      whole =
          others_come c.args.front.now c.operations.rest.now c.in-Some.op.now t m c.operations.run.splices.items on.new_bytes c.take_out.new.run.splices.items c.in-len1-up.len_at_least at on.comes on.splices
          ∙ c.operations.invariant.whole;
      serves = others_served c.args.front.now c.operations.rest.now c.in-Some.op.now t m on.new_bytes c.in-len1-up.len_at_least at c.operations.invariant.serves on.applied;
      runs = subst (λ (v : List ℕ). RemovesRows (cut_of v) c.args.doc c.in-Some-2.next c.take_out.new.run) (c.go_to.ensures ∙ c.operations.invariant.same) on.run;
    }
