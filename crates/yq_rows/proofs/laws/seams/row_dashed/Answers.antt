use Rattle.yq_rows.proofs.laws.seams.row_dashed.Goals as goal
use Rattle.yq_row_table.proofs.seams.JoinLaws.{row_compact, row_dashed}

pub returns-clause-cut : goal.returns-clause-cut
returns-clause-cut c = row_dashed

pub returns-clause-compact : goal.returns-clause-compact
returns-clause-compact c = row_compact
