use Rattle.yq_edit_rules.proofs.FlowRowLaws.{flow_edited}
use Rattle.yq_edit_rules.proofs.operations.flow_changed.Goals as goal

pub returns-clause-edited : goal.returns-clause-edited
returns-clause-edited c = flow_edited
