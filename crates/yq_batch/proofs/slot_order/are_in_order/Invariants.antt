use Rattle.std.proofs.Common.{length}
use Rattle.yq_batch.specs.Slots.{AreInOrder}
use Rattle.yq_batch.proofs.slot_order.are_in_order.Given as goal

abbrev pub invariant-places : goal.invariant-places
invariant-places l = AreInOrder l.at l.rest l.size → AreInOrder 0 l.fn.places l.size

abbrev pub decreases-places : goal.decreases-places
decreases-places l = length l.rest
