use Rattle.yq_core.proofs.PathLoops.{key_in_items}
use Rattle.yq_core.proofs.path.item_of.Goals as goal

pub returns-in-Key : goal.returns-in-Key
returns-in-Key c = key_in_items c.args.items.now.items c.in-Key.field-0 c.args.step.now c.in-Key.is
