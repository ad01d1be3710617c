use Rattle.yq_flow_edits.proofs.FlowLoops.{entries_last}
use Rattle.yq_flow_edits.proofs.flow_place.entries_end.Goals as goal

pub returns-in-len1-up : goal.returns-in-len1-up
returns-in-len1-up c = entries_last c.args.entries.now c.last-item.result c.end_of.result c.end_of.ensures c.in-len1-up.len_at_least c.last-item.is
