use Rattle.yq_edit_laws.proofs.LineCommentLaws.{line_comments_change_rows}
use Rattle.yq_edit_laws.proofs.edit_laws.line_comments_change_rows.Goals as goal

pub returns : goal.returns
returns c = line_comments_change_rows
