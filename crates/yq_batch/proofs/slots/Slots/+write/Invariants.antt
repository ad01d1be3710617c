use Rattle.std.proofs.Common.{length}
use Rattle.yq_batch.specs.Slots.{slots_of}
use Rattle.yq_batch.proofs.slots.Slots.+write.Given as goal

abbrev pub decreases-write : goal.decreases-write
decreases-write l = length (slots_of l.self.now)
