use Rattle.std.proofs.Common.{length}
use Rattle.yq_batch.proofs.slot_order.each_once.Given as goal

abbrev pub decreases-places : goal.decreases-places
decreases-places l = length l.rest
