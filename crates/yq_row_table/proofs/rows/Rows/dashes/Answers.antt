use Rattle.yq_row_table.proofs.rows.Rows.dashes.Goals as goal

pub dashes-requires : goal.dashes-requires
dashes-requires c = c.found.ensures.cuts
