use Rattle.std.proofs.Common.{length}
use Rattle.yq_batch.specs.RowEnds.{EndAt}
use Rattle.yq_batch.proofs.slot_order.end_at.Given as goal

abbrev pub invariant-places : goal.invariant-places
invariant-places l = EndAt l.at l.rest → EndAt l.at l.fn.places

abbrev pub decreases-places : goal.decreases-places
decreases-places l = length l.rest
