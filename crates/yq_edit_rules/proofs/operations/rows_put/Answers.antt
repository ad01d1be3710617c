use Rattle.yq_edit_rules.proofs.PartLaws.{document_known}
use Rattle.yq_edit_rules.proofs.operations.rows_put.Goals as goal

pub returns-clause-known : goal.returns-clause-known
returns-clause-known c = document_known
