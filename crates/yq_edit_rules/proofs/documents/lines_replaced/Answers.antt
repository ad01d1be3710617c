use Rattle.yq_edit_rules.proofs.NodeLineLaws.{lines_replaced}
use Rattle.yq_edit_rules.proofs.documents.lines_replaced.Goals as goal

pub returns : goal.returns
returns c = lines_replaced
