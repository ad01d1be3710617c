use Rattle.yq_flow_edits.proofs.FlowLoops.{items_last}
use Rattle.yq_flow_edits.proofs.flow_place.items_end.Goals as goal

pub returns-in-len1-up : goal.returns-in-len1-up
returns-in-len1-up c = items_last c.args.items.now c.last-item.result c.end_of.result c.end_of.ensures c.in-len1-up.len_at_least c.last-item.is
