use Rattle.std.proofs.Common.{refl, inl}
use Rattle.yq_documents.proofs.HeadLaws.{ends_seam}
use Rattle.yq_row_heads.proofs.head.read_node_head.Goals as goal

pub read_inline-requires : goal.read_inline-requires
read_inline-requires c = (ends_seam c.args.whole.now c.args.text.now c.requires c.utf8.text, inl refl)
