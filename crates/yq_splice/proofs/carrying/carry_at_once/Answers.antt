use Rattle.std.proofs.Common.{◌≡◌, List, ◌<◌, ◌-◌, length, take, drop, length-take, sym, ap, ◌∙◌, subst, arith}
use Rattle.std.proofs.lemmas.Result.{err_from_is_err_and}
use Rattle.yq_semantics.specs.Operations.{operation_of}
use Rattle.yq_edit_laws.{specs.Answers.EditFails, specs.Carried.carry_one, specs.Edit.by_reading, proofs.OperationsLaws.last_comes}
use Rattle.yq_batch.specs.Together.{CarriesTogether}
use Rattle.yq_splice.proofs.carrying.carry_at_once.Goals as goal

-- a sole operation is the last one
sole : {A : Type 0} (os : List A) → length os < 2 → length (take (length os - 1) (drop 1 os)) ≡ 0
sole os less = omega (arith, length-take (length os - 1) (drop 1 os), less)

pub returns-in_err-edited : goal.returns-in_err-edited
returns-in_err-edited c =
    let p = err_from_is_err_and c.from_residual.result c.from_residual.ensures.1 in
    rw (p.1, p.2)
    (subst (EditFails c.in_err-edited.field-0.0)
    (sym (ap (by_reading (carry_one (operation_of c.op-item.result))) c.requires.read) ∙ last_comes c.args.ops.now c.op-item.result c.args.cut.now c.in-len1.len_at_least c.op-item.is (sole c.args.ops.now c.in-len1.len_below))
    c.in_err-edited.ensures)

pub returns-in-len1 : goal.returns-in-len1
returns-in-len1 c =
    sym (last_comes c.args.ops.now c.op-item.result c.args.cut.now c.in-len1.len_at_least c.op-item.is (sole c.args.ops.now c.in-len1.len_below))
    ∙ (ap (by_reading (carry_one (operation_of c.op-item.result))) c.requires.read ∙ c.in_ok-edited.ensures)

pub with_others-requires : goal.with_others-requires
with_others-requires c =
    let h = subst (CarriesTogether c.args.ops.now c.args.cut.now) c.in-Some.is c.in_ok-found.ensures.ok in
    h.serves

pub returns : goal.returns
returns c =
    let h = subst (CarriesTogether c.args.ops.now c.args.cut.now) c.in-Some.is c.in_ok-found.ensures.ok in
    sym h.whole ∙ c.in_ok-carried.ensures

pub returns-in_err-carried : goal.returns-in_err-carried
returns-in_err-carried c =
    let h = subst (CarriesTogether c.args.ops.now c.args.cut.now) c.in-Some.is c.in_ok-found.ensures.ok in
    let p = err_from_is_err_and c.from_residual-in_err-carried.result c.from_residual-in_err-carried.ensures.1 in
    rw (p.1, p.2) (subst (EditFails c.in_err-carried.field-0.0) h.whole c.in_err-carried.ensures)
