use Rattle.yq_core.proofs.Bounds.{boundary_gap}
use Rattle.yq_inline.proofs.lead.long_gap.Goals as goal

pub split_at-requires : goal.split_at-requires
split_at-requires c = boundary_gap c.args.text.now _ (rw c.as_bytes.ensures.value at c.gap_len-n.ensures.len) c.utf8.text
