use Rattle.yq_row_table.proofs.splices.AppendLaws.{end_appended}
use Rattle.yq_rows.proofs.laws.appending.end_appended.Goals as goal

pub returns : goal.returns
returns c k cut x h = end_appended h.text cut k x.front x.row x.break x.new x.end h.is_cut h.last h.more.takes h.more.rows
