use Rattle.yq_row_table.proofs.rows.Rows.tail.Goals as goal

pub tail-requires : goal.tail-requires
tail-requires c = c.found.ensures.cuts
