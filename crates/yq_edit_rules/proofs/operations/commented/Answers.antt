use Rattle.yq_edit_rules.{proofs.HeadLaws.head_commented, proofs.CommentPutLaws.line_commented}
use Rattle.yq_edit_rules.proofs.operations.commented.Goals as goal

pub returns-clause-line : goal.returns-clause-line
returns-clause-line c = line_commented

pub returns-clause-head : goal.returns-clause-head
returns-clause-head c = head_commented
