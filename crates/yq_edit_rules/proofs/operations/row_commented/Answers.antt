use Rattle.yq_edit_rules.proofs.RowCommentLaws.{row_replaces, content_commented, block_commented}
use Rattle.yq_edit_rules.proofs.operations.row_commented.Goals as goal

pub returns-clause-row : goal.returns-clause-row
returns-clause-row c = row_replaces

pub returns-clause-content : goal.returns-clause-content
returns-clause-content c = content_commented

pub returns-clause-block : goal.returns-clause-block
returns-clause-block c = block_commented
