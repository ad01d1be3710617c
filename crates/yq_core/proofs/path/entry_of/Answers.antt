use Rattle.yq_core.proofs.PathLoops.{index_in_entries}
use Rattle.yq_core.proofs.path.entry_of.Goals as goal

pub returns-in-Index : goal.returns-in-Index
returns-in-Index c = index_in_entries c.args.entries.now.items c.in-Index.field-0 c.args.step.now c.in-Index.is
