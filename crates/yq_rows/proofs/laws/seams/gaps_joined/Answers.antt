use Rattle.yq_rows.proofs.laws.seams.gaps_joined.Goals as goal
use Rattle.yq_row_table.proofs.seams.GapFronts.{gap_joined, gap_repaired, lines_joined_of}

pub returns-clause-lines : goal.returns-clause-lines
returns-clause-lines c = lines_joined_of

pub returns-clause-gap : goal.returns-clause-gap
returns-clause-gap c = gap_joined

pub returns-clause-repaired : goal.returns-clause-repaired
returns-clause-repaired c = gap_repaired
