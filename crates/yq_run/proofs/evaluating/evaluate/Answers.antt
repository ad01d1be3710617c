use Rattle.std.{proofs.Common.{Err, OnOk, ap, ◌∙◌, refl, subst}, proofs.lemmas.Result.err_from_is_err_and, specs.String.string_bytes}
use Rattle.yq_semantics.specs.View.{program_of}
use Rattle.yq_history.{proofs.CallLaws.fails, specs.Report.report_by}
use Rattle.yq_commands.{proofs.DoneLaws.{by_words, parsed_shows, unparsed_shows}, proofs.CommandCalls.{none_yet, parsed_calls}}
use Rattle.yq_commands.{specs.Calls.CallsToShow, specs.CommandDone.Evaluates, specs.CommandFaults.{RefusedUnparsed, cause_in}}
use Rattle.yq_commands.{specs.Editing.program_in, specs.Evaluation.evaluated, specs.FileEdits.PrintsAsked}
use Rattle.yq_commands.proofs.FileEditLaws.{parsed_free, printed_comes, unparsed_fault}
use Rattle.yq_run.proofs.evaluating.evaluate.Goals as goal

pub returns-in_err-program-clause-done : goal.returns-in_err-program-clause-done
returns-in_err-program-clause-done g c = λ keeps.
    let p = err_from_is_err_and c.from_residual.result c.from_residual.ensures.1 in
    let content = g.D.Store.content c.args.store.now in
    let w = c.args.words.now in
    by_words w _ _ _ c.as_str-expr.ensures.value c.as_str-file.ensures.value refl
    (λ asked. Evaluates (evaluated w.options (program_in asked.expr)) asked.file content content c.from_residual.result (report_by c.args.report.now))
    (unparsed_shows w.options c.as_str-expr.result.now c.as_str-file.result.now content c.from_residual.result (report_by c.args.report.now) _ (p.1 ∙ ap Err p.2) c.in_err-program.ensures.err)

pub returns-clause-done : goal.returns-clause-done
returns-clause-done g c = λ keeps.
    let content = g.D.Store.content c.args.store.now in
    let after = g.D.Store.content c.evaluate_program.new.store in
    let w = c.args.words.now in
    by_words w _ _ _ c.as_str-expr.ensures.value c.as_str-file.ensures.value refl
    (λ asked. Evaluates (evaluated w.options (program_in asked.expr)) asked.file content after c.evaluate_program.result (report_by c.evaluate_program.new.report))
    (parsed_shows w.options c.as_str-expr.result.now c.as_str-file.result.now content c.evaluate_program.result (report_by c.evaluate_program.new.report)
    (program_of c.in_ok-program.program) after c.in_ok-program.ensures.ok (c.evaluate_program.ensures.done keeps))

pub returns-clause-edited : goal.returns-clause-edited
returns-clause-edited g c = λ keeps.
    let w = c.args.words.now in
    by_words w _ _ _ c.as_str-expr.ensures.value c.as_str-file.ensures.value refl
    (λ asked. OnOk c.evaluate_program.result (PrintsAsked asked (g.D.Store.content c.args.store.now) (string_bytes c.evaluate_program.new.report.text)))
    (printed_comes c.evaluate_program.result w.options.diff c.as_str-expr.result.now c.as_str-file.result.now (program_of c.in_ok-program.program) _ _ c.in_ok-program.ensures.ok (c.evaluate_program.ensures.edited keeps))

pub returns-in_err-program-clause-unparsed : goal.returns-in_err-program-clause-unparsed
returns-in_err-program-clause-unparsed g c =
    let p = err_from_is_err_and c.from_residual.result c.from_residual.ensures.1 in
    subst (λ x. RefusedUnparsed (cause_in (program_in x)) c.from_residual.result) c.as_str-expr.ensures.value
    (unparsed_fault c.from_residual.result c.as_str-expr.result.now _ (p.1 ∙ ap Err p.2) c.in_err-program.ensures.err)

pub returns-clause-unparsed : goal.returns-clause-unparsed
returns-clause-unparsed g c =
    subst (λ x. RefusedUnparsed (cause_in (program_in x)) c.evaluate_program.result) c.as_str-expr.ensures.value
    (parsed_free c.evaluate_program.result c.as_str-expr.result.now (program_of c.in_ok-program.program) c.in_ok-program.ensures.ok)

pub returns-in_err-program-clause-calls : goal.returns-in_err-program-clause-calls
returns-in_err-program-clause-calls g c =
    let p = err_from_is_err_and c.from_residual.result c.from_residual.ensures.1 in
    none_yet g.D.Store.leads c.from_residual.result _ c.args.store.now _ (fails c.from_residual.result _ p.1)

pub returns-clause-calls : goal.returns-clause-calls
returns-clause-calls g c =
    by_words c.args.words.now _ _ _ c.as_str-expr.ensures.value c.as_str-file.ensures.value refl
    (λ asked. CallsToShow g.D.Store.leads c.evaluate_program.result asked c.args.store.now c.evaluate_program.new.store)
    (parsed_calls g.D.Store.leads c.evaluate_program.result _ c.args.store.now _ (program_of c.in_ok-program.program) _ c.in_ok-program.ensures.ok c.evaluate_program.ensures.calls)
