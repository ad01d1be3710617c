use Rattle.yq_edit_rules.proofs.RootLaws.{document_rooted, root_rows_replaced}
use Rattle.yq_edit_rules.proofs.operations.root_replaced.Goals as goal

pub returns-clause-cut : goal.returns-clause-cut
returns-clause-cut c = document_rooted

pub returns-clause-replaced : goal.returns-clause-replaced
returns-clause-replaced c = root_rows_replaced
