use Rattle.yq_rows.proofs.laws.seams.rows_seamed.Goals as goal
use Rattle.yq_row_table.proofs.seams.SeamLaws.{rows_seam}

pub returns : goal.returns
returns c = λ front rows new limit end rest new_end new_rest h f. (rows_seam front rows new limit end rest new_end new_rest h f).0
