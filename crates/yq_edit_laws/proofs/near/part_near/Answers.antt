use Rattle.yq_edit_laws.proofs.EntryIndexes.{map_differs}
use Rattle.yq_edit_laws.proofs.near.part_near.Goals as goal

pub entry_near-requires : goal.entry_near-requires
entry_near-requires c = map_differs c.args.node.now c.in-Map.entries c.in-Map.is c.requires
