use Rattle.yq_row_table.proofs.splices.SpliceCases.{replaced}
use Rattle.yq_rows.proofs.laws.splices.rows_replaced.Goals as goal

pub returns : goal.returns
returns c x h may = replaced h.text x.cut x.part x.start x.stop x.new x.gap h.is_cut may
