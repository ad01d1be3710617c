use Rattle.yq_edit_rules.proofs.ContentLaws.{lower_content_replaced, root_content_replaced}
use Rattle.yq_edit_rules.proofs.operations.content_replaced.Goals as goal

pub returns-clause-lower : goal.returns-clause-lower
returns-clause-lower c = lower_content_replaced

pub returns-clause-root : goal.returns-clause-root
returns-clause-root c = root_content_replaced
