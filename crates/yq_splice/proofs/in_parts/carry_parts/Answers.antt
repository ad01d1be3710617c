use Rattle.std.{proofs.Common.{◌≤◌, List, ap, ◌∙◌, length, sym, subst, arith}, proofs.lemmas.Result.err_from_is_err_and}
use Rattle.std.specs.String.{string_bytes}
use Rattle.yq_documents.specs.Reading.{documents_of}
use Rattle.yq_semantics.{specs.Operations.operations_of, specs.View.program_of, specs.declared.op.Op.Op}
use Rattle.yq_semantics.proofs.updates.PlanAnswers.{literals_hold}
use Rattle.yq_edit_laws.{specs.Answers.EditFails, specs.Carried.carry_all, specs.Edit.edit_after, specs.Valid.AreServed}
use Rattle.yq_edit_laws.proofs.UpdateLaws.{memory_fails, update_there}
use Rattle.yq_splice.proofs.PartLaws.{all_carried, begun, part_done, part_fails, part_served, unplanned}
use Rattle.yq_splice.{proofs.OversizedParts.oversized_fails, proofs.ValidOperands.operands_valid}
use Rattle.yq_splice.proofs.in_parts.carry_parts.Goals as goal

pub parts-init : goal.parts-init
parts-init c = record {
  count = c.count-count.ensures;
  small = omega arith;
  carried = λ u at. begun u c.args.documents.now c.args.splices.items c.requires.read
      (literals_hold (program_of c.args.program.now) c.args.nth u c.requires.literals at) _ (c.in_ok-from_str.ensures.ok ∙ sym c.requires.same)
      (c.requires.judged u at);
}

pub plan_part-requires-clause-document : goal.plan_part-requires-clause-document
plan_part-requires-clause-document c = omega (arith, c.parts-test.true, c.parts.invariant.count)

pub returns-in_err-from_str-clause-err : goal.returns-in_err-from_str-clause-err
returns-in_err-from_str-clause-err c =
    let p = err_from_is_err_and c.from_residual.result c.from_residual.ensures.1 in
    rw (p.1, p.2)
    (λ u at. memory_fails u c.args.documents.now)

pub returns-in_err-part-clause-err : goal.returns-in_err-part-clause-err
returns-in_err-part-clause-err c =
    let p = err_from_is_err_and c.from_residual-in_err-part.result c.from_residual-in_err-part.ensures.1 in
    rw (p.1, p.2)
    (λ u at. unplanned u c.args.documents.now c.args.splices.items c.requires.read
    (literals_hold (program_of c.args.program.now) c.args.nth u c.requires.literals at) c.parts.doc c.parts.place (string_bytes c.parts.done.text)
    c.parts.done.splices.items (c.parts.invariant.carried u at) _ (c.in_err-part.ensures.err u at))

pub carry_part-requires : goal.carry_part-requires
carry_part-requires c =
    let u = update_there (program_of c.args.program.now) c.args.nth c.requires.within in
    let valid = operands_valid c.in_ok-part.part.ops.items c.in_ok-part.ensures.valid in
    subst (λ (x : List Op). AreServed (operations_of x) (string_bytes c.parts.done.text)) (sym c.deref.ensures.value)
    (part_served u.0 c.args.documents.now c.args.splices.items c.requires.read
    (literals_hold (program_of c.args.program.now) c.args.nth u.0 c.requires.literals u.1) c.parts.doc c.parts.place c.in_ok-part.part.doc
    c.in_ok-part.part.place (string_bytes c.parts.done.text) c.parts.done.splices.items (c.parts.invariant.carried u.0 u.1)
    (operations_of c.in_ok-part.part.ops.items) (c.in_ok-part.ensures.part u.0 u.1) valid)

pub returns-in_err-done-clause-err : goal.returns-in_err-done-clause-err
returns-in_err-done-clause-err c =
    let p = err_from_is_err_and c.from_residual-in_err-done.result c.from_residual-in_err-done.ensures.1 in
    let valid = operands_valid c.in_ok-part.part.ops.items c.in_ok-part.ensures.valid in
    rw (p.1, p.2)
    (λ u at. part_fails u c.args.documents.now c.args.splices.items c.requires.read
    (literals_hold (program_of c.args.program.now) c.args.nth u c.requires.literals at) c.parts.doc c.parts.place c.in_ok-part.part.doc
    c.in_ok-part.part.place (string_bytes c.parts.done.text) c.parts.done.splices.items (c.parts.invariant.carried u at)
    (operations_of c.in_ok-part.part.ops.items) (c.in_ok-part.ensures.part u at) valid _
    (subst (λ (x : List Op). EditFails c.in_err-done.field-0.0 (edit_after c.parts.done.splices.items (carry_all (operations_of x) (string_bytes c.parts.done.text)))) c.deref.ensures.value c.in_err-done.ensures))

pub returns-then-part-clause-err : goal.returns-then-part-clause-err
returns-then-part-clause-err c = λ u at.
    let valid = operands_valid c.in_ok-part.part.ops.items c.in_ok-part.ensures.valid in
    let holds = literals_hold (program_of c.args.program.now) c.args.nth u c.requires.literals at in
    let done = part_done u c.args.documents.now c.args.splices.items c.requires.read holds c.parts.doc c.parts.place c.in_ok-part.part.doc
    c.in_ok-part.part.place (string_bytes c.parts.done.text) c.parts.done.splices.items (c.parts.invariant.carried u at)
    (operations_of c.in_ok-part.part.ops.items) (c.in_ok-part.ensures.part u at) valid (string_bytes c.in_ok-done.done.text) c.in_ok-done.done.splices.items
    (ap (λ (x : List Op). edit_after c.parts.done.splices.items (carry_all (operations_of x) (string_bytes c.parts.done.text))) (sym c.deref.ensures.value) ∙ c.in_ok-done.ensures) in
    rw c.error.ensures
    (oversized_fails u c.args.documents.now c.args.splices.items c.requires.read holds c.in_ok-part.part.doc c.in_ok-part.part.place
    (string_bytes c.in_ok-done.done.text) c.in_ok-done.done.splices.items done (c.in_ok-part.ensures.large u at c.if-part.true done.rest done.left))

pub parts-preserved : goal.parts-preserved
parts-preserved c =
    let valid = operands_valid c.in_ok-part.part.ops.items c.in_ok-part.ensures.valid in
    record {
      count = c.parts.invariant.count;
      small = omega arith;
      carried = λ u at. part_done u c.args.documents.now c.args.splices.items c.requires.read
          (literals_hold (program_of c.args.program.now) c.args.nth u c.requires.literals at) c.parts.doc c.parts.place c.in_ok-part.part.doc
          c.in_ok-part.part.place (string_bytes c.parts.done.text) c.parts.done.splices.items (c.parts.invariant.carried u at)
          (operations_of c.in_ok-part.part.ops.items) (c.in_ok-part.ensures.part u at) valid (string_bytes c.in_ok-done.done.text) c.in_ok-done.done.splices.items
          (ap (λ (x : List Op). edit_after c.parts.done.splices.items (carry_all (operations_of x) (string_bytes c.parts.done.text))) (sym c.deref.ensures.value) ∙ c.in_ok-done.ensures);
    }

pub parts-smaller : goal.parts-smaller
parts-smaller c = omega (arith, c.parts-test.true, c.in_ok-part.ensures.later, c.parts.invariant.small)

pub returns-clause-ok : goal.returns-clause-ok
returns-clause-ok c = λ u at.
    let past : length (documents_of c.args.documents.now) ≤ c.parts.doc = omega (arith, c.parts-test.false, c.parts.invariant.count) in
    all_carried u c.args.documents.now c.args.splices.items c.requires.read
    (literals_hold (program_of c.args.program.now) c.args.nth u c.requires.literals at) c.parts.doc c.parts.place (string_bytes c.parts.done.text)
    c.parts.done.splices.items (c.parts.invariant.carried u at) past
