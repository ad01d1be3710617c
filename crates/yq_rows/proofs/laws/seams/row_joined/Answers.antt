use Rattle.yq_rows.proofs.laws.seams.row_joined.Goals as goal
use Rattle.yq_row_table.proofs.seams.JoinLaws.{limit_joined, row_joined}

pub returns-clause-row : goal.returns-clause-row
returns-clause-row c = row_joined

pub returns-clause-limit : goal.returns-clause-limit
returns-clause-limit c = limit_joined
