use Rattle.std.{proofs.Common.{Err, ap, ◌∙◌, refl}, proofs.lemmas.Result.err_from_is_err_and, specs.String.string_bytes}
use Rattle.yq_semantics.specs.View.{program_of}
use Rattle.yq_commands.{specs.Editing.program_edits, specs.Expecting.changes_as_expected}
use Rattle.yq_commands.proofs.ShowLaws.{diff_output, edit_fails, edit_showing, text_output}
use Rattle.yq_run.proofs.evaluating.show_edit.Goals as goal

pub returns-then-options-clause-ok : goal.returns-then-options-clause-ok
returns-then-options-clause-ok c =
    let e = c.in_ok-edited in
    let p = program_of c.args.program.now in
    let u = string_bytes e.edited.text in
    edit_showing c.args.options c.args.file.now c.args.text.now u e.edited.splices.items p _ c.requires e.ensures.ok
    (diff_output c.args.options c.args.file.now c.args.text.now u e.edited.splices.items (program_edits p c.args.text.now) (string_bytes e.change) c.if-options.true e.ensures.ok e.ensures.change)
    (c.is_as_expected-is_match.ensures ∙ ap (changes_as_expected c.args.options c.args.text.now) c.as_bytes.ensures.value)

pub returns-clause-ok : goal.returns-clause-ok
returns-clause-ok c =
    let e = c.in_ok-edited in
    let u = string_bytes e.edited.text in
    edit_showing c.args.options c.args.file.now c.args.text.now u e.edited.splices.items (program_of c.args.program.now) _ c.requires e.ensures.ok
    (text_output c.args.options c.args.file.now c.args.text.now u u c.if-options.false refl)
    (c.is_as_expected-is_match.ensures ∙ ap (changes_as_expected c.args.options c.args.text.now) c.as_bytes.ensures.value)

pub returns-in_err-edited-clause-err : goal.returns-in_err-edited-clause-err
returns-in_err-edited-clause-err c =
    let p = err_from_is_err_and c.from_residual.result c.from_residual.ensures.1 in
    edit_fails c.args.options c.args.text.now (program_of c.args.program.now) c.from_residual.result _ c.requires (p.1 ∙ ap Err p.2) c.in_err-edited.ensures.err
