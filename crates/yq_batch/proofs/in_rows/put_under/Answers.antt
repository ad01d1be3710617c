use Rattle.std.{proofs.Common.{◌≡◌, ◌∙◌, ℕ, ◌<◌, ◌^◌, List, length, Option, refl, sym, subst, ap}, specs.Prelude.IfSome}
use Rattle.std.{specs.String.string_bytes, specs.Str.IsCharBoundary, proofs.lemmas.Result.err_from_is_err_and}
use Rattle.yq_documents.specs.Reading.{cut_of}
use Rattle.yq_edit_rules.specs.Operands.{HasOperand}
use Rattle.yq_edit_laws.{proofs.CutLaws.text_small, specs.Carried.carried, specs.Valid.AreServed, proofs.FlowAnswers.whole_text}
use Rattle.yq_edit_laws.{specs.Answers.EditFails, specs.Theorems.IsFitting}
use Rattle.yq_semantics.{specs.Operations.Operation, specs.Under.{op_under, ops_under}}
use Rattle.yq_batch.{specs.RowRuns.{IsPlacesRun, RowsGoOn}, specs.Runs.{now_text, text_with_run}, specs.Under.op_meant}
use Rattle.yq_batch.{proofs.RowRunAnswers.rows_begin, proofs.RunAnswers.begins_with}
use Rattle.yq_batch.proofs.UnderLaws.{carries_under, first_fails, first_fits, first_operand, others_come, others_served, under_begin}
use Rattle.yq_text.specs.Halves.{whole}
use Rattle.yq_row_table.specs.Rows.{cut_text}
use Rattle.yq_batch.proofs.in_rows.put_under.Goals as goal

pub len-requires : goal.len-requires
len-requires c = subst (λ (l : List ℕ). length l < 2 ^ 64) (sym c.text-text.ensures.text) (text_small c.args.cut.now (cut_of c.args.cut.now) c.text-text.ensures.read)

pub operations-init : goal.operations-init
operations-init c =
    let t : List ℕ = c.args.cut.now in
    let new = c.in_ok-run.ensures in
    let text : now_text (cut_of t) c.in_ok-run.run' ≡ t = begins_with t c.in_ok-run.run' c.text-text.ensures.read new.text new.done in
    record {
      same = c.again-way.ensures;
      begins = c.in_ok-path.ensures;
      whole = under_begin c.args.front.now t c.in_ok-run.run' c.args.ops.now c.text-text.ensures.read new.text new.done new.splices;
      serves = subst (AreServed (ops_under c.args.front.now c.args.ops.now)) (sym text) c.requires;
      runs = rows_begin t c.in_ok-run.run' c.text-text.ensures.read new.text new.done;
    }

pub operations-preserved : goal.operations-preserved
operations-preserved c =
    let same : c.operations.way ≡ c.args.cut.now = c.operations.invariant.same in
    let t : List ℕ = now_text (cut_of c.args.cut.now) c.operations.run in
    let m : List ℕ = now_text (cut_of c.args.cut.now) c.put_one.new.run in
    let at : Operation = op_meant c.placed-at.result in
    let there = subst (λ (o : Option (Option (ℕ × ℕ))). IfSome o (λ next. RowsGoOn at (cut_of c.operations.way) c.operations.run next c.put_one.new.run)) c.in-Some.is c.in_ok-next.ensures.ok in
    let on = subst (λ (u : List ℕ). RowsGoOn (op_under c.args.front.now c.op-item.result) (cut_of u) c.operations.run c.in-Some.next c.put_one.new.run) same
    (subst (λ (o : Operation). RowsGoOn o (cut_of c.operations.way) c.operations.run c.in-Some.next c.put_one.new.run) c.placed-at.ensures there) in
    record {
      same = c.in_ok-next.ensures.same ∙ same;
      begins = c.in_ok-lead_on.ensures.stays;
      whole =
          others_come c.args.front.now c.operations.rest.now c.op-item.result t m c.operations.run.splices.items on.new_bytes c.put_one.new.run.splices.items c.in-len1-up.len_at_least c.op-item.is on.comes on.splices
          ∙ c.operations.invariant.whole;
      serves = others_served c.args.front.now c.operations.rest.now c.op-item.result t m on.new_bytes c.in-len1-up.len_at_least c.op-item.is c.operations.invariant.serves on.applied;
      runs = on.run;
    }

pub put_one-requires-clause-run : goal.put_one-requires-clause-run
put_one-requires-clause-run c = subst (λ (u : List ℕ). IsPlacesRun (cut_of u) c.operations.last c.operations.run) (sym c.operations.invariant.same) c.operations.invariant.runs

pub put_one-requires-clause-fits : goal.put_one-requires-clause-fits
put_one-requires-clause-fits c =
    subst (λ (o : Operation). IsFitting o (now_text (cut_of c.operations.way) c.operations.run)) (sym c.placed-at.ensures)
    (subst (λ (u : List ℕ). IsFitting (op_under c.args.front.now c.op-item.result) (now_text (cut_of u) c.operations.run)) (sym c.operations.invariant.same)
    (first_fits c.args.front.now c.operations.rest.now c.op-item.result (now_text (cut_of c.args.cut.now) c.operations.run) c.in-len1-up.len_at_least c.op-item.is c.operations.invariant.serves))

pub put_one-requires-clause-operand : goal.put_one-requires-clause-operand
put_one-requires-clause-operand c =
    subst HasOperand (sym c.placed-at.ensures) (first_operand c.args.front.now c.operations.rest.now c.op-item.result c.in-len1-up.len_at_least c.op-item.is c.operations.invariant.serves.1.operands)

pub returns-in_err-next-clause-err : goal.returns-in_err-next-clause-err
returns-in_err-next-clause-err c =
    let p = err_from_is_err_and c.from_residual-in_err-next.result c.from_residual-in_err-next.ensures.1 in
    let e = c.in_err-next.field-0.0 in
    let t : List ℕ = now_text (cut_of c.args.cut.now) c.operations.run in
    let there = subst (λ (o : Operation). EditFails e (carried o (now_text (cut_of c.operations.way) c.operations.run))) c.placed-at.ensures c.in_err-next.ensures.err in
    let first = subst (λ (u : List ℕ). EditFails e (carried (op_under c.args.front.now c.op-item.result) (now_text (cut_of u) c.operations.run))) c.operations.invariant.same there in
    rw (p.1, p.2)
    (subst (EditFails e) c.operations.invariant.whole (first_fails c.args.front.now c.operations.rest.now c.op-item.result t c.operations.run.splices.items e c.in-len1-up.len_at_least c.op-item.is first))

pub end-requires : goal.end-requires
end-requires c =
    subst (λ (l : List ℕ). IsCharBoundary l c.operations.run.done) (sym (whole_text c.args.cut.now (whole c.text-text.result) c.text-text.ensures.read c.text-text.ensures.text)) c.operations.invariant.runs.rows.run.edge

pub returns-clause-ok : goal.returns-clause-ok
returns-clause-ok c =
    let t : List ℕ = c.args.cut.now in
    let same : whole c.text-text.result ≡ cut_text (cut_of t) = whole_text t (whole c.text-text.result) c.text-text.ensures.read c.text-text.ensures.text in
    let text = c.in_ok-edited.ensures.text ∙ ap (λ (l : List ℕ). text_with_run l (string_bytes c.operations.run.text) c.operations.run.done) same in
    carries_under c.args.front.now c.operations.rest.now (now_text (cut_of t) c.operations.run) c.operations.run.splices.items c.args.ops.now t _ refl text c.in_ok-edited.ensures.splices
    c.operations.invariant.whole c.operations.invariant.serves
