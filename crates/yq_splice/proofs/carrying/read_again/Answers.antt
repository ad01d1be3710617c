use Rattle.std.proofs.Common.{ap, sym, ◌∙◌, subst}
use Rattle.yq_core.specs.Answers.{ReadError, ReadFails}
use Rattle.yq_documents.specs.Reading.{read_at}
use Rattle.yq_edit_laws.proofs.UpdateLaws.{no_reading}
use Rattle.yq_splice.proofs.carrying.read_again.Goals as goal

pub returns-in-Ok-clause-same : goal.returns-in-Ok-clause-same
returns-in-Ok-clause-same c = c.in-Ok.ensures.text ∙ c.as_bytes.ensures.value

pub returns-in-Ok-clause-read : goal.returns-in-Ok-clause-read
returns-in-Ok-clause-read c = ap read_at (sym c.as_bytes.ensures.value) ∙ c.in-Ok.ensures.exact

pub unreachable-requires : goal.unreachable-requires
unreachable-requires c =
    no_reading c.args.text.now
    (ap read_at (sym c.as_bytes.ensures.value) ∙ subst (λ (e : ReadError). ReadFails e (read_at c.as_bytes.result.now)) c.in-Err-Fault.field-0-is c.in-Err-Fault.ensures.exact)
    c.requires
