use Rattle.yq_core.proofs.PlainLaws.{boundary_plain}
use Rattle.yq_scalar_reader.proofs.plain.split_plain.Goals as goal

pub split_at-requires : goal.split_at-requires
split_at-requires c = boundary_plain c.args.flow c.args.spaces c.args.text.now _ (rw c.as_bytes.ensures.value at c.plain_len.ensures)
