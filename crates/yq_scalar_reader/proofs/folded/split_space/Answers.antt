use Rattle.yq_core.proofs.ItemLaws.{boundary_space}
use Rattle.yq_scalar_reader.proofs.folded.split_space.Goals as goal

pub split_at-requires : goal.split_at-requires
split_at-requires c = boundary_space c.args.text.now _ (rw c.as_bytes.ensures.value at c.space_len.ensures) c.utf8.text
