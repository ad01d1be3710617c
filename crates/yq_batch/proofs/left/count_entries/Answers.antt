use Rattle.std.proofs.Common.{◌∙◌}
use Rattle.yq_batch.proofs.LeftLoops.{entries_are, parts_counted}
use Rattle.yq_batch.proofs.left.count_entries.Goals as goal

pub returns : goal.returns
returns c = c.len.ensures ∙ (c.args.entries.now.ok.0 ∙ parts_counted _ _ _ entries_are c.args.entries.now.items)
