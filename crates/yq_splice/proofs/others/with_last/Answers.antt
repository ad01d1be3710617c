use Rattle.std.proofs.Common.{◌≡◌, ℕ, List, ◌-◌, ◌≤◌, length, take, drop, length-take, sym, ap, ◌∙◌, subst, arith, string_bytes}
use Rattle.std.proofs.lemmas.Result.{err_from_is_err_and}
use Rattle.yq_semantics.specs.Operations.{operation_of, operations_of}
use Rattle.yq_edit_laws.{specs.Answers.EditFails, specs.Carried.{carried, carry_all}, specs.Edit.{edit_after, gives}}
use Rattle.yq_edit_laws.{specs.Theorems.HasReading, proofs.OperationsLaws.{last_comes, none_come}, proofs.OrderLaws.fails_after}
use Rattle.yq_splice.proofs.others.with_last.Goals as goal

-- one operation is the last one
one : {A : Type 0} (os : List A) → length os ≤ 1 → length (take (length os - 1) (drop 1 os)) ≡ 0
one os few = omega (arith, length-take (length os - 1) (drop 1 os), few)

pub carry-requires : goal.carry-requires
carry-requires c = subst HasReading (sym c.as_str.ensures.value) (c.requires.serves.0, c.requires.serves.1.read)

pub returns-in_default : goal.returns-in_default
returns-in_default c = none_come c.args.together.left.now (string_bytes c.args.together.edited.text) c.args.together.edited.splices.items (omega arith)

pub returns : goal.returns
returns c =
    let u : List ℕ = string_bytes c.args.together.edited.text in
    ap (edit_after c.args.together.edited.splices.items)
    (sym (last_comes c.args.together.left.now c.op-item.result u c.in-len1-up.len_at_least c.op-item.is (one c.args.together.left.now c.requires.few))
    ∙ (ap (carried (operation_of c.op-item.result)) (sym c.as_str.ensures.value) ∙ c.in_ok-last.ensures))
    ∙ λ i. gives (string_bytes (sym c.in_ok-edited_after.ensures.0 i)) (sym c.in_ok-edited_after.ensures.1 i)

pub returns-in_err-last : goal.returns-in_err-last
returns-in_err-last c =
    let u : List ℕ = string_bytes c.args.together.edited.text in
    let p = err_from_is_err_and c.from_residual.result c.from_residual.ensures.1 in
    rw (p.1, p.2)
    (fails_after c.in_err-last.field-0.0 c.args.together.edited.splices.items (carry_all (operations_of c.args.together.left.now) u)
    (subst (EditFails c.in_err-last.field-0.0)
    (ap (carried (operation_of c.op-item.result)) c.as_str.ensures.value ∙ last_comes c.args.together.left.now c.op-item.result u c.in-len1-up.len_at_least c.op-item.is (one c.args.together.left.now c.requires.few))
    c.in_err-last.ensures))
