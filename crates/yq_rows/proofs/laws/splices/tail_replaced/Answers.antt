use Rattle.yq_row_table.proofs.splices.RowReplaced.{tail_replaced}
use Rattle.yq_rows.proofs.laws.splices.tail_replaced.Goals as goal

pub returns : goal.returns
returns c x new h fits = tail_replaced h.text x.cut x.part x.front x.row x.back new h.is_cut h.rows fits
