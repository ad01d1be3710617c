use Rattle.yq_row_table.proofs.rows.Rows.head.Goals as goal

pub head-requires : goal.head-requires
head-requires c = c.found.ensures.cuts
