use Rattle.yq_store.proofs.ModeLaws.{and_within}
use Rattle.yq_store.proofs.disk.ownership.mode_where.Goals as goal

pub returns-in-Group-clause-within : goal.returns-in-Group-clause-within
returns-in-Group-clause-within c = and_within c.args.mode 511
