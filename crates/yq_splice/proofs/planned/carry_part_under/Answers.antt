use Rattle.std.{proofs.Common.{◌≡◌, ◌∙◌, List, Option, sym, ap, subst}, specs.Prelude.{IfSome, Vec}}
use Rattle.std.{proofs.lemmas.Result.err_from_is_err_and, specs.declared.alloc.Global.Global}
use Rattle.yq_semantics.{specs.Operations.{Operation, operations_of}, specs.Under.{ops_under, part_ops}, specs.declared.op.Op.Op}
use Rattle.yq_edit_laws.{specs.Answers.EditFails, specs.Carried.carry_all, specs.Valid.AreServed}
use Rattle.yq_batch.specs.Under.{MayCarryUnder}
use Rattle.yq_splice.proofs.PlanLaws.{left_give, left_served}
use Rattle.yq_core.specs.declared.path.Step as declared
use Rattle.yq_splice.proofs.planned.carry_part_under.Goals as goal

pub carry_under-requires : goal.carry_under-requires
carry_under-requires c =
    let both : ops_under c.deref.result.now c.deref-2.result.now ≡ part_ops c.args.part.now = λ i. ops_under (c.deref.ensures.value i) (c.deref-2.ensures.value i) in
    subst (λ (os : List Operation). AreServed os c.args.cut.now) (sym both) c.requires

pub returns-in_err-found : goal.returns-in_err-found
returns-in_err-found c =
    let both : ops_under c.deref.result.now c.deref-2.result.now ≡ part_ops c.args.part.now = λ i. ops_under (c.deref.ensures.value i) (c.deref-2.ensures.value i) in
    let p = err_from_is_err_and c.from_residual.result c.from_residual.ensures.1 in
    rw (p.1, p.2) (subst (λ (os : List Operation). EditFails c.in_err-found.field-0.0 (carry_all os c.args.cut.now)) both c.in_err-found.ensures.err)

pub with_others-requires : goal.with_others-requires
with_others-requires c =
    let h = subst (MayCarryUnder c.deref.result.now c.deref-2.result.now c.args.cut.now) c.in-Some.is c.in_ok-found.ensures.ok in
    let left : List Op = c.in-Some.together.left.now in
    let given : operations_of c.in-Some-whole.ops.items ≡ ops_under c.deref-3.result.now left =
    subst (λ (o : Option (Vec Op Global)). IfSome o (λ v. operations_of v.items ≡ ops_under c.deref-3.result.now left)) c.in-Some-whole.is c.in_ok-whole.ensures in
    let is : operations_of c.deref-4.result.now ≡ ops_under c.deref.result.now left =
    ap operations_of c.deref-4.ensures.value ∙ (given ∙ ap (λ (front : List declared.Step). ops_under front left) (c.deref-3.ensures.value ∙ sym c.deref.ensures.value)) in
    left_served c.deref.result.now c.deref-2.result.now c.args.cut.now c.in-Some.together h c.deref-4.result.now is

pub returns : goal.returns
returns c =
    let both : ops_under c.deref.result.now c.deref-2.result.now ≡ part_ops c.args.part.now = λ i. ops_under (c.deref.ensures.value i) (c.deref-2.ensures.value i) in
    let h = subst (MayCarryUnder c.deref.result.now c.deref-2.result.now c.args.cut.now) c.in-Some.is c.in_ok-found.ensures.ok in
    let left : List Op = c.in-Some.together.left.now in
    let given : operations_of c.in-Some-whole.ops.items ≡ ops_under c.deref-3.result.now left =
    subst (λ (o : Option (Vec Op Global)). IfSome o (λ v. operations_of v.items ≡ ops_under c.deref-3.result.now left)) c.in-Some-whole.is c.in_ok-whole.ensures in
    let is : operations_of c.deref-4.result.now ≡ ops_under c.deref.result.now left =
    ap operations_of c.deref-4.ensures.value ∙ (given ∙ ap (λ (front : List declared.Step). ops_under front left) (c.deref-3.ensures.value ∙ sym c.deref.ensures.value)) in
    ap (λ (os : List Operation). carry_all os c.args.cut.now) (sym both)
    ∙ (sym (left_give c.deref.result.now c.deref-2.result.now c.args.cut.now c.in-Some.together h c.deref-4.result.now is) ∙ c.in_ok-carried.ensures)

pub returns-in_err-carried : goal.returns-in_err-carried
returns-in_err-carried c =
    let both : ops_under c.deref.result.now c.deref-2.result.now ≡ part_ops c.args.part.now = λ i. ops_under (c.deref.ensures.value i) (c.deref-2.ensures.value i) in
    let h = subst (MayCarryUnder c.deref.result.now c.deref-2.result.now c.args.cut.now) c.in-Some.is c.in_ok-found.ensures.ok in
    let left : List Op = c.in-Some.together.left.now in
    let given : operations_of c.in-Some-whole.ops.items ≡ ops_under c.deref-3.result.now left =
    subst (λ (o : Option (Vec Op Global)). IfSome o (λ v. operations_of v.items ≡ ops_under c.deref-3.result.now left)) c.in-Some-whole.is c.in_ok-whole.ensures in
    let is : operations_of c.deref-4.result.now ≡ ops_under c.deref.result.now left =
    ap operations_of c.deref-4.ensures.value ∙ (given ∙ ap (λ (front : List declared.Step). ops_under front left) (c.deref-3.ensures.value ∙ sym c.deref.ensures.value)) in
    let p = err_from_is_err_and c.from_residual-in_err-carried.result c.from_residual-in_err-carried.ensures.1 in
    let all = left_give c.deref.result.now c.deref-2.result.now c.args.cut.now c.in-Some.together h c.deref-4.result.now is ∙ ap (λ (os : List Operation). carry_all os c.args.cut.now) both in
    rw (p.1, p.2) (subst (EditFails c.in_err-carried.field-0.0) all c.in_err-carried.ensures)
