use Rattle.yq_core.proofs.Boundaries.{boundary_white}
use Rattle.yq_core.proofs.text.split_white.Goals as goal

pub split_at-requires : goal.split_at-requires
split_at-requires c = boundary_white c.args.text.now _ (rw c.as_bytes.ensures.value at c.whites_len.ensures.value) c.utf8.text
