use Rattle.yq_documents.proofs.FlowLaws.{item_found, item_missing}
use Rattle.yq_nodes.proofs.nodes.flow.item_at.Goals as goal

pub returns-in-Some : goal.returns-in-Some
returns-in-Some c = item_found c.args.items.now c.args.index c.in-Some.item.now _ c.in-Some.ensures.lookup.0 c.in-Some.ensures.lookup.1

pub returns-in-None : goal.returns-in-None
returns-in-None c = item_missing c.args.items.now c.args.index c.in-None.ensures.lookup.0
