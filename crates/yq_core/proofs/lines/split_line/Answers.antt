use Rattle.yq_core.proofs.Boundaries.{boundary_line}
use Rattle.yq_core.proofs.lines.split_line.Goals as goal

pub split_at-requires : goal.split_at-requires
split_at-requires c = boundary_line c.args.text.now _ (rw c.as_bytes.ensures.value at c.line_len.ensures.value) c.utf8.text
