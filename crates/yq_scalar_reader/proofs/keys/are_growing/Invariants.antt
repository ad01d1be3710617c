use Rattle.std.proofs.Common.{ℕ, ◌+◌, ◌<◌}
use Rattle.yq_scalar_reader.proofs.DistinctKeys.{GrowsAt}
use Rattle.yq_scalar_reader.proofs.keys.are_growing.Given as goal

abbrev pub invariant-pairs : goal.invariant-pairs
invariant-pairs l = (k : ℕ) → k + 1 < l.later → GrowsAt l.keys k
