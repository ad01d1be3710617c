use Rattle.std.proofs.Common.{◌≡◌, ℕ, List, Err, string_bytes, sym, ap, ◌∙◌, subst, Some}
use Rattle.std.{proofs.lemmas.Result.{err_from_is_err_and, on_ok_weaker}, specs.FinMap.get}
use Rattle.yq_history.{proofs.CallLaws.{fails, makes_none}, specs.Output.IsOutput, specs.Report.report_by, proofs.EffectLaws.on_ok}
use Rattle.yq_semantics.specs.View.{program_of}
use Rattle.yq_commands.{specs.Editing.{outcome_of, program_edits}, specs.FileEdits.IsTextEdited}
use Rattle.yq_commands.{specs.Expecting.{change_output, changes_as_expected, edits_as_expected}, proofs.ExpectingLaws.free_edit}
use Rattle.yq_commands.{proofs.FileEditLaws.change_comes, proofs.DoneLaws.refused_edits}
use Rattle.yq_run.proofs.editing.edit_from.Goals as goal

pub returns : goal.returns
returns g c =
    let e = c.commit.ensures in
    let a = c.in_ok-edited in
    let p = program_of c.args.parsed.now.program.now in
    let options = c.args.parsed.now.options in
    let file = c.args.open.pair.file.now in
    let text = c.args.open.text.items in
    let u : List ℕ = string_bytes a.edited.text in
    let gives : program_edits p text ≡ outcome_of a.edited = ap (program_edits p) (sym c.as_slice-old.ensures.value) ∙ a.ensures.ok in
    let change : IsOutput file (change_output options.diff text (program_edits p text)) (string_bytes a.change) =
    subst (λ (t : List ℕ). IsOutput file (change_output options.diff t (program_edits p t)) (string_bytes a.change)) c.as_slice-old.ensures.value a.ensures.change in
    record {
      done = λ keeps. record {
        edit = λ apart. e.done keeps apart p gives;
        held = λ apart there.
            on_ok_weaker c.commit.result
            (λ (is : get (g.D.Store.content c.commit.new.store) file ≡ Some u). record {
              edited = (u, is, subst (λ (t : List ℕ). IsTextEdited p t u) c.as_slice-old.ensures.value a.ensures.edited);
              printed = change_comes options.diff file text u a.edited.splices.items (program_edits p text)
                  (get (g.D.Store.content c.commit.new.store) file) (string_bytes a.change) gives is change;
            })
            (e.text keeps apart there);
        names = e.leaves.names keeps;
      };
      silent = λ off. subst (λ b. IsOutput file (change_output b text (program_edits p text)) (string_bytes a.change)) off change;
      shows = on_ok c.commit.result
          (record {
            output = change;
            is_match = c.is_as_expected-report.ensures ∙ ap (λ t. changes_as_expected options t c.as_bytes.result.now) c.as_slice-old.ensures.value
                ∙ ap (changes_as_expected options text) c.as_bytes.ensures.value ∙ ap (edits_as_expected options text) (sym gives);
          });
      unasked = λ free matched. c.is_as_expected-report.ensures ∙ free_edit options c.as_slice-old.result.now c.as_bytes.result.now free;
      leaves = e.leaves.store;
      calls = e.calls p gives;
    }

pub returns-in_err-edited-clause-done : goal.returns-in_err-edited-clause-done
returns-in_err-edited-clause-done g c = λ keeps.
    let p = err_from_is_err_and c.from_residual.result c.from_residual.ensures.1 in
    let e = c.args.parsed.now in
    refused_edits (program_of e.program.now) e.expr.now c.args.open (g.D.Store.content c.args.store.now) c.from_residual.result _ e.options.diff (report_by c.args.report.now)
    c.as_slice-old.result.now c.as_slice-old.ensures.value (p.1 ∙ ap Err p.2) c.in_err-edited.ensures.err

pub returns-in_err-edited-clause-calls : goal.returns-in_err-edited-clause-calls
returns-in_err-edited-clause-calls g c =
    let p = err_from_is_err_and c.from_residual.result c.from_residual.ensures.1 in
    makes_none g.D.Store.leads c.from_residual.result c.args.open.pair.file.now c.args.open.pair.journal.now c.args.open.text.items _ c.args.store.now (fails c.from_residual.result _ p.1)
