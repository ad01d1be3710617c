use Rattle.yq_core.proofs.PathLoops.{item_found, item_missing}
use Rattle.yq_core.proofs.path.item_at.Goals as goal

pub returns-in-Some : goal.returns-in-Some
returns-in-Some c = item_found c.deref.result.now c.args.items.now.items c.args.index c.in-Some.node.now _ c.deref.ensures.value c.in-Some.ensures.lookup.0 c.in-Some.ensures.lookup.1

pub returns-in-None : goal.returns-in-None
returns-in-None c = item_missing c.deref.result.now c.args.items.now.items c.args.index c.deref.ensures.value c.in-None.ensures.lookup.0
