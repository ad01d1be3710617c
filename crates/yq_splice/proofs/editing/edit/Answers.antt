use Rattle.std.{proofs.Common.{Some, sym, ap, ◌∙◌, subst}, proofs.lemmas.Result.err_from_is_err_and}
use Rattle.yq_documents.specs.Reading.{cut_of, read_at}
use Rattle.yq_semantics.specs.View.{program_of}
use Rattle.yq_edit_laws.specs.Answers.{EditFails}
use Rattle.yq_splice.{proofs.AnswerLaws.{program_fails, read_edit, unread_fails}, proofs.SpliceLaws.program_splices}
use Rattle.yq_splice.proofs.editing.edit.Goals as goal

pub edit_read-requires-clause-same : goal.edit_read-requires-clause-same
edit_read-requires-clause-same c = c.in_ok-documents.ensures.text ∙ c.as_bytes.ensures.value

pub edit_read-requires-clause-read : goal.edit_read-requires-clause-read
edit_read-requires-clause-read c = ap read_at (sym c.as_bytes.ensures.value) ∙ c.in_ok-documents.ensures.exact

pub returns-in_err-documents : goal.returns-in_err-documents
returns-in_err-documents c =
    let p = err_from_is_err_and c.from_residual.result c.from_residual.ensures.1 in
    let k = unread_fails c.in_err-documents.field-0.0 (program_of c.args.program.now) c.as_bytes.result.now c.args.text.now c.as_bytes.ensures.value c.utf8.text
    (record { none = c.in_err-documents.ensures.exact; utf8 = c.in_err-documents.ensures.not_utf8 }) in
    rw (p.1, p.2) (record { exact = k.0; edited = tt; splices = tt; refused = k.1 })

pub returns-in_err-edit_read : goal.returns-in_err-edit_read
returns-in_err-edit_read c =
    let p = err_from_is_err_and c.from_residual-in_err-edit_read.result c.from_residual-in_err-edit_read.ensures.1 in
    let is = read_edit (program_of c.args.program.now) c.args.text.now _ (ap read_at (sym c.as_bytes.ensures.value) ∙ c.in_ok-documents.ensures.exact) in
    let k = program_fails c.in_err-edit_read.field-0.0 (program_of c.args.program.now) c.args.text.now (subst (EditFails c.in_err-edit_read.field-0.0) (sym is) c.in_err-edit_read.ensures.exact) c.in_err-edit_read.ensures.refused in
    rw (p.1, p.2) (record { exact = k.0; edited = tt; splices = tt; refused = k.1 })

pub returns-clause-exact : goal.returns-clause-exact
returns-clause-exact c =
    read_edit (program_of c.args.program.now) c.args.text.now (Some (cut_of c.in_ok-documents.documents)) (ap read_at (sym c.as_bytes.ensures.value) ∙ c.in_ok-documents.ensures.exact)
    ∙ c.in_ok-edit_read.ensures.exact

pub returns-clause-splices : goal.returns-clause-splices
returns-clause-splices c = program_splices (program_of c.args.program.now) c.args.text.now _ _ c.in_ok-edit_read.ensures.edited
