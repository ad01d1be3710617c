use Rattle.yq_edit_laws.proofs.EntryIndexes.{key_there}
use Rattle.yq_edit_laws.proofs.near.index_near.Goals as goal

pub returns-then-has_key : goal.returns-then-has_key
returns-then-has_key c = key_there c.args.key.now c.args.entries.now.items _ c.requires (c.has_key.ensures c.if-has_key.true)

pub returns-then-has_key-2 : goal.returns-then-has_key-2
returns-then-has_key-2 c = key_there c.args.key.now c.args.entries.now.items _ c.requires (c.has_key-then-far-start.ensures c.if-has_key-2.true)
