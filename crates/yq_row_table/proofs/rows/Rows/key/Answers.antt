use Rattle.yq_row_table.proofs.rows.Rows.key.Goals as goal

pub key-requires : goal.key-requires
key-requires c = c.found.ensures.cuts
