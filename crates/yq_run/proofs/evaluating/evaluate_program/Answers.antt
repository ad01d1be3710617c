use Rattle.std.{proofs.Common.{ℕ, Some, Err, refl, sym, ap, ◌∙◌}, proofs.lemmas.Result.err_from_is_err_and}
use Rattle.yq_semantics.specs.View.{program_of}
use Rattle.yq_commands.{specs.Evaluation.shows, proofs.ShowLaws.{show_refused, show_done, report_is}}
use Rattle.yq_commands.proofs.DoneLaws.{no_success, unread_arrives}
use Rattle.yq_run.proofs.evaluating.evaluate_program.Goals as goal

pub returns-in_err-text-clause-done : goal.returns-in_err-text-clause-done
returns-in_err-text-clause-done g c = λ keeps.
    let p = err_from_is_err_and c.from_residual.result c.from_residual.ensures.1 in
    let is = p.1 ∙ ap Err p.2 in
    let content = g.D.Store.content in
    record {
      arrives = λ journal h good.
          unread_arrives (content c.args.store.now) (content c.read.new.self) c.args.file.now journal
          (shows c.args.parsed.now.options (program_of c.args.parsed.now.program.now)) c.from_residual.result _ c.in_err-text.ensures.fault is
          (c.in_err-text.ensures.same keeps)
          (λ absent. c.in_err-text.ensures.absent keeps (ap Err absent)) h good;
      output = λ journal h good. no_success _ c.from_residual.result _ is;
    }

pub returns-in_err-report-clause-done : goal.returns-in_err-report-clause-done
returns-in_err-report-clause-done g c = λ keeps.
    let p = err_from_is_err_and c.from_residual-in_err-report.result c.from_residual-in_err-report.ensures.1 in
    record {
      arrives = λ journal h good.
          show_refused (g.D.Store.content c.args.store.now) _ _ _ (shows c.args.parsed.now.options (program_of c.args.parsed.now.program.now)) c.deref.result.now (c.in_ok-text.ensures.same keeps)
          (c.in_ok-text.ensures.found keeps ∙ ap Some (sym c.deref.ensures.value)) h good c.from_residual-in_err-report.result _ (p.1 ∙ ap Err p.2) c.in_err-report.ensures.err;
      output = λ journal h good. no_success _ c.from_residual-in_err-report.result _ (p.1 ∙ ap Err p.2);
    }

pub returns-clause-done : goal.returns-clause-done
returns-clause-done g c = λ keeps.
    let found = c.in_ok-text.ensures.found keeps ∙ ap Some (sym c.deref.ensures.value) in
    let content = g.D.Store.content c.args.store.now in
    record {
      arrives = λ journal h good.
          show_done content _ _ _ (shows c.args.parsed.now.options (program_of c.args.parsed.now.program.now)) c.deref.result.now (c.in_ok-text.ensures.same keeps)
          found h good {T = ℕ} 0 c.args.file.now _ c.in_ok-report.ensures.ok;
      output = λ journal h good.
          report_is content content _ _ (shows c.args.parsed.now.options (program_of c.args.parsed.now.program.now)) c.deref.result.now refl found h good c.args.file.now _ c.in_ok-report.ensures.ok;
    }

pub returns-clause-edited : goal.returns-clause-edited
returns-clause-edited g c = λ keeps updates. (c.deref.result.now, c.in_ok-text.ensures.found keeps ∙ ap Some (sym c.deref.ensures.value), c.in_ok-report.ensures.edited updates)
