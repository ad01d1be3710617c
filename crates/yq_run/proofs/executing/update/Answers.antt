use Rattle.std.{proofs.Common.{◌≡◌, ℕ, List, Ok, Err, sym, ap, ◌∙◌, subst}, proofs.lemmas.Result.{err_from_is_err_and, on_ok_weaker}}
use Rattle.std.{specs.FinMap.get, specs.String.string_bytes}
use Rattle.yq_journal.specs.State.{State}
use Rattle.yq_semantics.specs.View.{program_of}
use Rattle.yq_commands.{specs.Editing.{program_edits, program_in}, specs.CommandEffects.{edit_effect, update_effect, output_by}}
use Rattle.yq_commands.{specs.CommandFaults.{RefusedUnparsed, cause_in}, specs.Expecting.{report_edit, works_as_expected}}
use Rattle.yq_commands.proofs.EditEffects.{parsed_works}
use Rattle.yq_commands.proofs.FileEditLaws.{file_comes, parsed_free, unparsed_fault, both_come, change_output_by}
use Rattle.yq_commands.{specs.CommandSteps.{update_cause, update_next}, proofs.ExpectingLaws.{effect_expected, matched_as, history_showing}}
use Rattle.yq_commands.{proofs.OutcomeLaws.{arrives_as, opened}, proofs.CommandCalls.{none_yet, parsed_calls}}
use Rattle.yq_commands.{proofs.DoneLaws.{by_words, unopened_edits, unparsed_edits}, specs.Calls.CallsToEdit, specs.CommandDone.EditsInPlace}
use Rattle.yq_history.{specs.Leaves.LeavesNames, specs.Pair.Differs, specs.Report.report_by}
use Rattle.yq_history.{proofs.CallLaws.{fails, unopened_calls, opened_calls}, proofs.EffectLaws.from_opened, specs.Output.{IsOutput, Shows}}
use Rattle.yq_store.specs.Count.{failures_after}
use Rattle.yq_run.proofs.executing.update.Goals as goal

pub returns : goal.returns
returns g c =
    let o = c.in_ok-text.ensures in
    let e = c.edit_from.ensures in
    let w = c.args.words.now in
    let r = c.edit_from.result in
    let x = c.as_str-expr.result.now in
    let f = c.as_str-file.result.now in
    let j = c.as_str-journal.result.now in
    let p = program_of c.in_ok-program.program in
    let is = c.in_ok-program.ensures.ok in
    let text = c.in_ok-text.text.items in
    let state = c.in_ok-text.state in
    let old = g.D.Store.content c.args.store.now in
    let diffs = w.options.diff in
    let does = λ (t : List ℕ) (s : State). edit_effect x (program_edits p t) t s in
    record {
      done = λ keeps.
          let same = o.leaves.same keeps in
          let held = o.text keeps in
          let edit = (e.done keeps).edit in
          let effect : update_effect x (program_in x) (get old f) (get old j) ≡ does text state =
          ap (λ q. update_effect x q (get old f) (get old j)) is ∙ o.found keeps does in
          by_words w _ _ _ c.as_str-expr.ensures.value c.as_str-file.ensures.value c.as_str-journal.ensures.value
          (λ asked. EditsInPlace asked old (g.D.Store.content c.edit_from.new.store) r (report_by c.edit_from.new.report)) (record {
            arrives = λ apart h good.
                arrives_as _ _ _ r (λ q. update_cause q h) (λ q. update_next x q h) h _ _ (sym is)
                (opened (update_cause (Ok p)) (update_next x (Ok p)) _ _ _ _ r (c.in_ok-text.text, state) h (o.opens keeps h good) (edit apart).arrives);
            effect = λ apart.
                parsed_works _ _ old _ x p _ _ r is
                (from_opened _ _ does _ _ old _ _ text state r same (o.found keeps does) (edit apart).effect);
            edited = λ apart.
                let left = (e.done keeps).held apart (ap (λ m. get m f) same ∙ held) in
                both_come r diffs x f text _ _ _ held
                (file_comes r x p text _ _ is held (on_ok_weaker r (λ z. z.edited) left)) (on_ok_weaker r (λ z. z.printed) left);
            output = λ h good.
                on_ok_weaker r
                (subst (λ due. Shows f due (report_by c.edit_from.new.report))
                (history_showing w.options p _ f j text held h good ∙ ap (λ q. report_edit w.options q h) (sym is)))
                e.shows;
            listed = λ apart.
                on_ok_weaker r
                (subst (λ z. IsOutput f z (string_bytes c.edit_from.new.report.text))
                (ap (λ t. output_by diffs t (does text state)) (sym held) ∙ ap (output_by diffs (get old f)) (sym effect)))
                (change_output_by diffs f f j x text (program_edits p text) state _ _ r _ (edit apart).effect (on_ok_weaker r (λ s. s.output) e.shows));
            expected =
                matched_as _ r _ _ _ (on_ok_weaker r (λ s. s.is_match) e.shows)
                (effect_expected w.options x text (program_edits p text) state ∙ ap (works_as_expected w.options.expect_change) (sym effect));
            names = subst (λ m. LeavesNames (λ q. Differs q f j) m (g.D.Store.content c.edit_from.new.store) r) same (e.done keeps).names;
          });
      silent = e.silent;
      unasked = e.unasked;
      unparsed = subst (λ y. RefusedUnparsed (cause_in (program_in y)) r) c.as_str-expr.ensures.value (parsed_free r x p is);
      leaves = record { no_output = e.leaves.no_output; count = e.leaves.count ∙ ap (failures_after r) o.leaves.store.count };
      calls = by_words w _ _ _ c.as_str-expr.ensures.value c.as_str-file.ensures.value c.as_str-journal.ensures.value
          (λ asked. CallsToEdit g.D.Store.leads r asked c.args.store.now c.edit_from.new.store)
          (parsed_calls g.D.Store.leads r _ c.args.store.now _ p _ is
          (opened_calls g.D.Store.leads r f j (λ t. edit_effect x (program_edits p t) t) (c.in_ok-text.text, state)
          c.open_pair.new.store c.edit_from.new.store e.calls c.args.store.now o.calls));
    }

pub returns-in_err-program-clause-done : goal.returns-in_err-program-clause-done
returns-in_err-program-clause-done g c = λ keeps.
    let p = err_from_is_err_and c.from_residual.result c.from_residual.ensures.1 in
    let content = g.D.Store.content c.args.store.now in
    let w = c.args.words.now in
    by_words w _ _ _ c.as_str-expr.ensures.value c.as_str-file.ensures.value c.as_str-journal.ensures.value
    (λ asked. EditsInPlace asked content content c.from_residual.result (report_by c.args.report.now))
    (unparsed_edits _ content c.from_residual.result _ (p.1 ∙ ap Err p.2) (report_by c.args.report.now) c.in_err-program.ensures.err)

pub returns-in_err-text-clause-done : goal.returns-in_err-text-clause-done
returns-in_err-text-clause-done g c = λ keeps.
    let p = err_from_is_err_and c.from_residual-in_err-text.result c.from_residual-in_err-text.ensures.1 in
    let e = c.in_err-text.ensures in
    let content = g.D.Store.content c.args.store.now in
    let w = c.args.words.now in
    by_words w _ _ _ c.as_str-expr.ensures.value c.as_str-file.ensures.value c.as_str-journal.ensures.value
    (λ asked. EditsInPlace asked content (g.D.Store.content c.open_pair.new.store) c.from_residual-in_err-text.result (report_by c.args.report.now))
    (unopened_edits _ content c.from_residual-in_err-text.result _ (p.1 ∙ ap Err p.2) (report_by c.args.report.now)
    (program_of c.in_ok-program.program) (g.D.Store.content c.open_pair.new.store) c.in_ok-program.ensures.ok
    (e.leaves.same keeps) (e.opens keeps) (e.missed keeps))

pub returns-in_err-program-clause-unparsed : goal.returns-in_err-program-clause-unparsed
returns-in_err-program-clause-unparsed g c =
    let p = err_from_is_err_and c.from_residual.result c.from_residual.ensures.1 in
    subst (λ x. RefusedUnparsed (cause_in (program_in x)) c.from_residual.result) c.as_str-expr.ensures.value
    (unparsed_fault c.from_residual.result c.as_str-expr.result.now _ (p.1 ∙ ap Err p.2) c.in_err-program.ensures.err)

pub returns-in_err-text-clause-unparsed : goal.returns-in_err-text-clause-unparsed
returns-in_err-text-clause-unparsed g c =
    subst (λ x. RefusedUnparsed (cause_in (program_in x)) c.from_residual-in_err-text.result) c.as_str-expr.ensures.value
    (parsed_free c.from_residual-in_err-text.result c.as_str-expr.result.now (program_of c.in_ok-program.program) c.in_ok-program.ensures.ok)

pub returns-in_err-program-clause-calls : goal.returns-in_err-program-clause-calls
returns-in_err-program-clause-calls g c =
    let p = err_from_is_err_and c.from_residual.result c.from_residual.ensures.1 in
    none_yet g.D.Store.leads c.from_residual.result _ c.args.store.now _ (fails c.from_residual.result _ p.1)

pub returns-in_err-text-clause-calls : goal.returns-in_err-text-clause-calls
returns-in_err-text-clause-calls g c =
    let p = err_from_is_err_and c.from_residual-in_err-text.result c.from_residual-in_err-text.ensures.1 in
    let r = c.from_residual-in_err-text.result in
    by_words c.args.words.now _ _ _ c.as_str-expr.ensures.value c.as_str-file.ensures.value c.as_str-journal.ensures.value
    (λ asked. CallsToEdit g.D.Store.leads r asked c.args.store.now c.open_pair.new.store)
    (parsed_calls g.D.Store.leads r _ c.args.store.now _ (program_of c.in_ok-program.program) _ c.in_ok-program.ensures.ok
    (unopened_calls g.D.Store.leads r c.as_str-file.result.now c.as_str-journal.result.now (λ text. edit_effect c.as_str-expr.result.now (program_edits (program_of c.in_ok-program.program) text) text)
    _ (p.1 ∙ ap Err p.2) c.args.store.now c.open_pair.new.store c.in_err-text.ensures.calls))
