use Rattle.yq_core.proofs.Boundaries.{boundary_break}
use Rattle.yq_core.proofs.lines.split_at_break.Goals as goal

pub split_at-requires : goal.split_at-requires
split_at-requires c = boundary_break c.args.text.now _ (rw c.as_bytes.ensures.value at c.text_len.ensures)
