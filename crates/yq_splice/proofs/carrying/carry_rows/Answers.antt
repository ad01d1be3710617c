use Rattle.std.{proofs.Common.{◌≡◌, ℕ, List, Option, Some, Ok, sym, ap, ◌∙◌, subst}, specs.String.string_bytes}
use Rattle.std.proofs.lemmas.Result.{err_from_is_err_and}
use Rattle.yq_semantics.specs.Operations.{operations_of}
use Rattle.yq_documents.specs.Reading.{cut_of, read_at}
use Rattle.yq_text.specs.declared.edited.Edited.{Edited}
use Rattle.yq_edit_laws.{specs.Answers.{Edits, EditFails}, specs.Carried.carry_all, specs.Edit.{edit_after, gives}, specs.Valid.AreServed}
use Rattle.yq_edit_laws.proofs.OrderLaws.{fails_after}
use Rattle.yq_splice.{specs.Answers.MayEdit, proofs.SessionLaws.has_cut}
use Rattle.yq_splice.proofs.carrying.carry_rows.Goals as goal

pub new-requires : goal.new-requires
new-requires c = has_cut _ (cut_of c.args.text.now) _ c.requires.read c.requires.rows

pub carry_at_once-requires-clause-read : goal.carry_at_once-requires-clause-read
carry_at_once-requires-clause-read c = subst (λ (t : List ℕ). read_at t ≡ Some (cut_of t)) (sym c.new.ensures) c.requires.read

pub carry_at_once-requires-clause-serves : goal.carry_at_once-requires-clause-serves
carry_at_once-requires-clause-serves c = subst (AreServed (operations_of c.args.ops.now)) (sym c.new.ensures) c.requires.serves

pub carry_all-requires : goal.carry_all-requires
carry_all-requires c = subst (AreServed (operations_of c.args.ops.now)) (sym c.in_ok-session.ensures) c.requires.serves

pub returns : goal.returns
returns c = subst (λ (t : List ℕ). Edits c.carry_all.result (edit_after c.args.splices.items (carry_all (operations_of c.args.ops.now) t))) c.in_ok-session.ensures c.carry_all.ensures

pub returns-in-Some : goal.returns-in-Some
returns-in-Some c =
    let one =
    subst (λ (o : Option Edited). MayEdit (Ok o) (carry_all (operations_of c.args.ops.now) c.new.result)) c.in-Some.is c.in_ok-at_once.ensures in
    ap (edit_after c.args.splices.items) (ap (carry_all (operations_of c.args.ops.now)) (sym c.new.ensures) ∙ one)
    ∙ λ i. gives (string_bytes (sym c.in_ok-edited_after.ensures.0 i)) (sym c.in_ok-edited_after.ensures.1 i)

pub returns-in_err-at_once : goal.returns-in_err-at_once
returns-in_err-at_once c =
    let p = err_from_is_err_and c.from_residual.result c.from_residual.ensures.1 in
    rw (p.1, p.2)
    (fails_after c.in_err-at_once.field-0.0 c.args.splices.items (carry_all (operations_of c.args.ops.now) c.args.text.now)
    (subst (λ (t : List ℕ). EditFails c.in_err-at_once.field-0.0 (carry_all (operations_of c.args.ops.now) t)) c.new.ensures c.in_err-at_once.ensures))
