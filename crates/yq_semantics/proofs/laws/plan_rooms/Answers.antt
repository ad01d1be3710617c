use Rattle.yq_semantics.proofs.updates.RoomsLast.{plan_follows}
use Rattle.yq_semantics.proofs.laws.plan_rooms.Goals as goal

pub returns : goal.returns
returns c = plan_follows
