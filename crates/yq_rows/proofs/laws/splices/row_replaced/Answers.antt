use Rattle.yq_row_table.proofs.splices.RowReplaced.{row_replaced}
use Rattle.yq_rows.proofs.laws.splices.row_replaced.Goals as goal

pub returns : goal.returns
returns c x new h takes = row_replaced h.text x.cut x.part x.front x.row x.back new h.is_cut h.rows takes.place takes.next
