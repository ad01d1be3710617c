use Rattle.std.proofs.Common.{length}
use Rattle.yq_batch.specs.RowEnds.{LeaveRoom}
use Rattle.yq_batch.proofs.slot_order.are_apart.Given as goal

abbrev pub invariant-places : goal.invariant-places
invariant-places l = LeaveRoom l.rest → LeaveRoom l.fn.places

abbrev pub decreases-places : goal.decreases-places
decreases-places l = length l.rest
