use Rattle.yq_row_table.proofs.splices.RowReplaced.{row_exchanged}
use Rattle.yq_rows.proofs.laws.splices.row_exchanged.Goals as goal

pub returns : goal.returns
returns c x new h is_located = row_exchanged h.text x.cut x.part x.front x.row x.back new h.is_cut h.rows is_located
