use Rattle.yq_row_table.proofs.rows.Rows.gap.Goals as goal

pub gap-requires : goal.gap-requires
gap-requires c = c.found.ensures.cuts
