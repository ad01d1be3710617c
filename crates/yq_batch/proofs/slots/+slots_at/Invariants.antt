use Rattle.std.proofs.Common.{length}
use Rattle.yq_batch.proofs.slots.+slots_at.Given as goal

abbrev pub decreases-slots_at : goal.decreases-slots_at
decreases-slots_at l = length l.places.now
