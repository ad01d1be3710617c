use Rattle.std.{proofs.Common.{◌≡◌, ℕ, List, refl, sym, subst, arith}, specs.String.string_bytes, proofs.lemmas.Result.err_from_is_err_and}
use Rattle.yq_semantics.{specs.Program.update_count, specs.View.program_of}
use Rattle.yq_documents.specs.Reading.{cut_of}
use Rattle.yq_edit_laws.specs.Theorems.{HasReading}
use Rattle.yq_splice.{specs.Updates.HaveLed, proofs.AnswerLaws.{all_done_so, led_reads}, proofs.SessionLaws.has_reading}
use Rattle.yq_splice.proofs.UpdateSteps.{led_no_more}
use Rattle.yq_splice.proofs.editing.update_each.Goals as goal

pub returns-in_err-edited-clause-err : goal.returns-in_err-edited-clause-err
returns-in_err-edited-clause-err c =
    let p = err_from_is_err_and c.from_residual.result c.from_residual.ensures.1 in
    rw (p.1, p.2)
    (c.in_err-edited.ensures.err c.args.text.now (λ us is. (refl, c.new.ensures.items)))

pub updates-init : goal.updates-init
updates-init c = record {
  count = c.updates-count.ensures;
  bound = omega (arith, c.in_ok-edited.ensures.more.1, c.updates-count.ensures);
  leads = c.in_ok-edited.ensures.ok c.args.text.now (λ us is. (refl, c.new.ensures.items));
}

pub read_again-requires : goal.read_again-requires
read_again-requires c =
    subst HasReading (sym c.as_str-text.ensures.value)
    (led_reads (program_of c.args.program.now) c.updates.done c.args.text.now (string_bytes c.updates.edited.text) c.updates.edited.splices.items c.requires.some
    (has_reading c.args.text.now (cut_of c.args.documents) c.requires.read) c.updates.invariant.leads)

pub returns-in_err-documents-clause-err : goal.returns-in_err-documents-clause-err
returns-in_err-documents-clause-err c =
    let p = err_from_is_err_and c.from_residual-in_err-documents.result c.from_residual-in_err-documents.ensures.1 in
    rw (p.1, p.2)
    (led_no_more (program_of c.args.program.now) c.args.text.now)

pub returns-in_err-next-clause-err : goal.returns-in_err-next-clause-err
returns-in_err-next-clause-err c =
    let p = err_from_is_err_and c.from_residual-in_err-next.result c.from_residual-in_err-next.ensures.1 in
    rw (p.1, p.2)
    (c.in_err-next.ensures.err c.args.text.now
    (subst (λ (x : List ℕ). HaveLed (program_of c.args.program.now) c.args.text.now c.updates.done x c.updates.edited.splices.items) (sym c.as_str-text.ensures.value) c.updates.invariant.leads))

pub updates-preserved : goal.updates-preserved
updates-preserved c = record {
  count = c.updates.invariant.count;
  bound = omega (arith, c.in_ok-next.ensures.more.1, c.updates.invariant.count);
  leads = c.in_ok-next.ensures.ok c.args.text.now
      (subst (λ (x : List ℕ). HaveLed (program_of c.args.program.now) c.args.text.now c.updates.done x c.updates.edited.splices.items) (sym c.as_str-text.ensures.value) c.updates.invariant.leads);
}

pub updates-smaller : goal.updates-smaller
updates-smaller c = omega (arith, c.in_ok-next.ensures.more.0, c.updates-test.true)

pub returns-clause-ok : goal.returns-clause-ok
returns-clause-ok c =
    let at_end : c.updates.done ≡ update_count (program_of c.args.program.now) = omega (arith, c.updates-test.false, c.updates.invariant.bound, c.updates.invariant.count) in
    all_done_so (program_of c.args.program.now) c.updates.done c.args.text.now (string_bytes c.updates.edited.text) c.updates.edited.splices.items c.updates.invariant.leads at_end
