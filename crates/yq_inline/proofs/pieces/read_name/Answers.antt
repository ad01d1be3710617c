use Rattle.yq_core.proofs.Bounds.{boundary_name}
use Rattle.yq_inline.proofs.pieces.read_name.Goals as goal

pub split_at-requires : goal.split_at-requires
split_at-requires c = boundary_name c.args.text.now _ (rw c.as_bytes.ensures.value at c.name_len-n.ensures)
