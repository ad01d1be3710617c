use Rattle.std.{proofs.Common.{Ok, Err, option_map, ap, sym, ◌∙◌, subst}, proofs.lemmas.Result.err_from_is_err_and, specs.Str.is_utf8}
use Rattle.yq_core.specs.Answers.{ReadFails}
use Rattle.yq_documents.specs.Reading.{documents, read_at}
use Rattle.yq_semantics.{specs.Judgement.gives, specs.View.program_of}
use Rattle.yq_eval.{specs.MatchAnswers.JudgesRead, specs.MatchView.matches_of}
use Rattle.yq_commands.proofs.ShowLaws.{unread_fails, reading_fails, matching_fails, found_shows}
use Rattle.yq_commands.specs.Reads as spec
use Rattle.yq_commands.proofs.reads.show_read.Goals as goal

pub returns-in_err-text-clause-err : goal.returns-in_err-text-clause-err
returns-in_err-text-clause-err c =
    let p = err_from_is_err_and c.from_residual.result c.from_residual.ensures.1 in
    unread_fails c.args.options c.args.text.now (program_of c.args.program.now) c.from_residual.result _ c.requires (p.1 ∙ ap Err p.2)
    c.in_err-text.ensures.err c.in_err-text.ensures.none

pub returns-in_err-documents-clause-err : goal.returns-in_err-documents-clause-err
returns-in_err-documents-clause-err c =
    let p = err_from_is_err_and c.from_residual-in_err-documents.result c.from_residual-in_err-documents.ensures.1 in
    reading_fails c.args.options c.args.text.now (program_of c.args.program.now) c.from_residual-in_err-documents.result c.in_err-documents.field-0.0 c.requires
    c.in_ok-text.ensures.utf8 (p.1 ∙ ap Err p.2) (subst (λ t. ReadFails c.in_err-documents.field-0.0 (read_at t)) (c.as_bytes.ensures.value ∙ c.in_ok-text.ensures.ok) c.in_err-documents.ensures.exact)
    (λ no. sym (ap is_utf8 (c.as_bytes.ensures.value ∙ c.in_ok-text.ensures.ok)) ∙ c.in_err-documents.ensures.not_utf8.0 no)

pub returns-in_err-found-clause-err : goal.returns-in_err-found-clause-err
returns-in_err-found-clause-err c =
    let p = err_from_is_err_and c.from_residual-in_err-found.result c.from_residual-in_err-found.ensures.1 in
    matching_fails c.args.options c.args.text.now (program_of c.args.program.now) _ c.from_residual-in_err-found.result c.in_err-found.field-0.0 c.requires
    (p.1 ∙ ap Err p.2) (ap (option_map documents)
    (ap read_at (sym (c.as_bytes.ensures.value ∙ c.in_ok-text.ensures.ok)) ∙ c.in_ok-documents.ensures.exact))
    (subst (λ r. JudgesRead r c.args.program.now c.in_ok-documents.documents) (sym c.in_err-found.ensures) c.matches.ensures.exact)

pub returns-clause-ok : goal.returns-clause-ok
returns-clause-ok c =
    found_shows c.args.options c.args.text.now (program_of c.args.program.now) _ (gives (matches_of c.in_ok-found.found.items)) c.requires
    (ap (option_map documents) (ap read_at (sym (c.as_bytes.ensures.value ∙ c.in_ok-text.ensures.ok)) ∙ c.in_ok-documents.ensures.exact))
    (subst (λ r. JudgesRead r c.args.program.now c.in_ok-documents.documents) (sym c.in_ok-found.ensures) c.matches.ensures.exact)
    ∙ ap (λ ms. Ok (spec.report_matches c.args.options (matches_of ms))) (sym c.deref.ensures.value)
    ∙ ap Ok (sym c.in_ok-report_matches.ensures)
