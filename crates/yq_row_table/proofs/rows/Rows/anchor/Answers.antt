use Rattle.yq_row_table.proofs.rows.Rows.anchor.Goals as goal

pub anchor-requires : goal.anchor-requires
anchor-requires c = c.found.ensures.cuts
