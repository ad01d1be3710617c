use Rattle.yq_rows.proofs.laws.seams.row_retailed.Goals as goal
use Rattle.yq_row_table.proofs.seams.TailLaws.{row_retailed}

pub returns : goal.returns
returns c = row_retailed
