use Rattle.yq_rows.proofs.laws.seams.row_seamed.Goals as goal
use Rattle.yq_row_table.proofs.seams.SeamLaws.{row_before}

pub returns : goal.returns
returns c = row_before
