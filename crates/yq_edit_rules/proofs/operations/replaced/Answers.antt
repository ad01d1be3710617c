use Rattle.yq_edit_rules.proofs.ReplaceLaws.{document_replaced, node_rows_replaced}
use Rattle.yq_edit_rules.proofs.operations.replaced.Goals as goal

pub returns-clause-cut : goal.returns-clause-cut
returns-clause-cut c = document_replaced

pub returns-clause-node : goal.returns-clause-node
returns-clause-node c = node_rows_replaced
