use Rattle.yq_edit_rules.proofs.TreeLaws.{depth_changed}
use Rattle.yq_edit_rules.proofs.documents.conditions_changed.Goals as goal

pub returns-clause-nested : goal.returns-clause-nested
returns-clause-nested c = depth_changed
