use Rattle.yq_edit_laws.{proofs.HeadCommentLaws.head_comment_is_put, proofs.LineCommentLaws.line_comment_is_put}
use Rattle.yq_edit_laws.proofs.edit_laws.comments_are_put.Goals as goal

pub returns-clause-line : goal.returns-clause-line
returns-clause-line c = line_comment_is_put

pub returns-clause-head : goal.returns-clause-head
returns-clause-head c = head_comment_is_put
