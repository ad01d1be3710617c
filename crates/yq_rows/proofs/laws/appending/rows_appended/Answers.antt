use Rattle.yq_row_table.proofs.seams.TailLaws.{rows_appended}
use Rattle.yq_rows.proofs.laws.appending.rows_appended.Goals as goal

pub returns : goal.returns
returns c limit x h = rows_appended x.front x.row x.break x.new limit x.end h.old h.more.takes h.pairs h.more.rows
