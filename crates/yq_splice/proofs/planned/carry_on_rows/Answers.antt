use Rattle.std.{proofs.Common.{◌≡◌, ℕ, List, Option, Ok, sym, ap, ◌∙◌, subst}, specs.String.string_bytes}
use Rattle.std.proofs.lemmas.Result.{err_from_is_err_and}
use Rattle.yq_semantics.{specs.Operations.{Operation, operations_of}, specs.Under.all_under}
use Rattle.yq_documents.specs.Reading.{cut_of}
use Rattle.yq_text.specs.declared.edited.Edited.{Edited}
use Rattle.yq_edit_laws.{specs.Answers.{Edits, EditFails}, specs.Carried.carry_all, specs.Edit.{edit_after, gives}, specs.Valid.AreServed}
use Rattle.yq_edit_laws.proofs.OrderLaws.{fails_after}
use Rattle.yq_splice.{specs.Answers.MayEdit, proofs.SessionLaws.has_cut}
use Rattle.yq_splice.proofs.planned.carry_on_rows.Goals as goal

pub new-requires : goal.new-requires
new-requires c = has_cut _ (cut_of c.args.text.now) _ c.requires.read c.requires.rows

pub carry_below-requires : goal.carry_below-requires
carry_below-requires c =
    let all : all_under c.deref.result.now ≡ all_under c.args.plan.items = ap all_under c.deref.ensures.value in
    subst (λ (os : List Operation). AreServed os c.new.result) (sym all) (subst (AreServed (all_under c.args.plan.items)) (sym c.new.ensures) c.requires.serves)

pub returns-in-Some : goal.returns-in-Some
returns-in-Some c =
    let all : all_under c.deref.result.now ≡ all_under c.args.plan.items = ap all_under c.deref.ensures.value in
    let one =
    subst (λ (o : Option Edited). MayEdit (Ok o) (carry_all (all_under c.deref.result.now) c.new.result)) c.in-Some.is c.in_ok-below.ensures in
    ap (edit_after c.args.splices.items) (ap (λ (os : List Operation). carry_all os c.args.text.now) (sym all) ∙ (ap (carry_all (all_under c.deref.result.now)) (sym c.new.ensures) ∙ one))
    ∙ λ i. gives (string_bytes (sym c.in_ok-edited_after.ensures.0 i)) (sym c.in_ok-edited_after.ensures.1 i)

pub returns-in_err-below : goal.returns-in_err-below
returns-in_err-below c =
    let all : all_under c.deref.result.now ≡ all_under c.args.plan.items = ap all_under c.deref.ensures.value in
    let p = err_from_is_err_and c.from_residual.result c.from_residual.ensures.1 in
    rw (p.1, p.2)
    (fails_after c.in_err-below.field-0.0 c.args.splices.items (carry_all (all_under c.args.plan.items) c.args.text.now)
    (subst (λ (os : List Operation). EditFails c.in_err-below.field-0.0 (carry_all os c.args.text.now)) all
    (subst (λ (t : List ℕ). EditFails c.in_err-below.field-0.0 (carry_all (all_under c.deref.result.now) t)) c.new.ensures c.in_err-below.ensures)))

pub carry_rows-requires-clause-serves : goal.carry_rows-requires-clause-serves
carry_rows-requires-clause-serves c =
    subst (λ (os : List Operation). AreServed os c.args.text.now) (sym (ap operations_of c.deref-3.ensures.value ∙ c.in_ok-ops.ensures)) c.requires.serves

pub returns : goal.returns
returns c =
    subst (λ (os : List Operation). Edits c.carry_rows.result (edit_after c.args.splices.items (carry_all os c.args.text.now)))
    (ap operations_of c.deref-3.ensures.value ∙ c.in_ok-ops.ensures) c.carry_rows.ensures
