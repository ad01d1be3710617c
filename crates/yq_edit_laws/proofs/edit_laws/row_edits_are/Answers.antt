use Rattle.yq_edit_laws.proofs.RowEditLaws.{row_edits}
use Rattle.yq_edit_laws.proofs.edit_laws.row_edits_are.Goals as goal

pub returns : goal.returns
returns c = row_edits
