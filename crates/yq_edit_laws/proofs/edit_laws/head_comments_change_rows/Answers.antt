use Rattle.yq_edit_laws.proofs.HeadCommentLaws.{head_comments_change_rows}
use Rattle.yq_edit_laws.proofs.edit_laws.head_comments_change_rows.Goals as goal

pub returns : goal.returns
returns c = head_comments_change_rows
