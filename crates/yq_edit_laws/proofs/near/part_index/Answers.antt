use Rattle.yq_edit_laws.proofs.EntryIndexes.{map_differs}
use Rattle.yq_edit_laws.proofs.near.part_index.Goals as goal

pub index_among-requires : goal.index_among-requires
index_among-requires c = map_differs c.args.node.now c.in-Map.entries c.in-Map.is c.requires
