use Rattle.yq_row_table.proofs.GapLaws.{boundary_gap}
use Rattle.yq_rows.proofs.gap.split_gap.Goals as goal

pub split_at-requires : goal.split_at-requires
split_at-requires c = boundary_gap c.args.text.now _ (rw c.as_bytes.ensures.value at c.gap_len.ensures) c.utf8.text
