use Rattle.std.{proofs.Common.{◌≡◌, ℕ, List, Some, sym, ap, subst, ◌∙◌, IfOk, IfErr, ◌++◌}, proofs.lemmas.Result.err_from_is_err_and}
use Rattle.std.{specs.Prelude.Vec, specs.declared.alloc.Global.Global, specs.String.string_bytes}
use Rattle.yq_documents.specs.Reading.{cut_of, documents_of, read_at}
use Rattle.yq_semantics.{specs.Operations.operations_of, specs.Plans.plan, specs.Rooms.room_of, specs.declared.op.Op.Op}
use Rattle.yq_text.specs.Splice.{Splice}
use Rattle.yq_edit_laws.{specs.Valid.{FailsAt, IsStep}, proofs.UpdateLaws.update_unplanned}
use Rattle.yq_expr.{specs.JudgedChanges.JudgesVerdict, specs.PlannedUpdates.plan_in, proofs.VerdictLaws.{fails_back, given}}
use Rattle.yq_splice.proofs.editing.step_in_parts.Goals as goal

pub returns-in_err-named-clause-err : goal.returns-in_err-named-clause-err
returns-in_err-named-clause-err c =
    let p = err_from_is_err_and c.from_residual.result c.from_residual.ensures.1 in
    let is : read_at c.args.text.now ≡ Some (cut_of c.args.documents.now) = c.requires.read ∙ ap (λ (x : List ℕ). Some (cut_of x)) (sym c.requires.same) in
    rw (p.1, p.2)
    (λ u at. update_unplanned (λ (v : Vec Op Global). operations_of v.items) u c.args.text.now c.args.documents.now _ is c.requires.same
    (fails_back _ _ (subst (λ r. JudgesVerdict r (plan_in u c.args.documents.now)) (sym c.in_err-named.ensures) (c.judge.ensures u at))))

pub carry_parts-requires-clause-read : goal.carry_parts-requires-clause-read
carry_parts-requires-clause-read c = subst (λ (x : List ℕ). read_at x ≡ Some (cut_of x)) (sym c.requires.same) c.requires.read

pub carry_parts-requires-clause-judged : goal.carry_parts-requires-clause-judged
carry_parts-requires-clause-judged c = λ u at.
    let planned = given (plan u (room_of c.args.documents.now) (documents_of c.args.documents.now)) (subst (λ r. JudgesVerdict r (plan_in u c.args.documents.now)) (sym c.in_ok-named.ensures) (c.judge.ensures u at)) in
    record { order = c.requires.order u at; operations = planned.0; planned = planned.1 }

pub returns-clause-ok : goal.returns-clause-ok
returns-clause-ok c = rw c.unnamed.ensures (λ u at.
    subst (λ (x : List ℕ). IfOk c.carry_parts.result (λ e. (cs : List Splice) × IsStep u x (string_bytes e.text) cs × (e.splices.items ≡ c.args.splices.items ++ cs))) c.requires.same (c.carry_parts.ensures.ok u at))

pub returns-clause-err : goal.returns-clause-err
returns-clause-err c = rw c.unnamed.ensures (λ u at. subst (λ (x : List ℕ). IfErr c.carry_parts.result (λ e. FailsAt e u x)) c.requires.same (c.carry_parts.ensures.err u at))
