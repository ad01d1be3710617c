use Rattle.yq_edit_rules.proofs.ChangedLaws.{document_changed}
use Rattle.yq_edit_rules.proofs.documents.document_changed.Goals as goal

pub returns-clause-read : goal.returns-clause-read
returns-clause-read c = document_changed
