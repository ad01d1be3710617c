use Rattle.std.proofs.Common.{ℕ, ◌+◌, ◌<◌}
use Rattle.yq_scalar_reader.proofs.DistinctKeys.{RisesAt}
use Rattle.yq_scalar_reader.proofs.keys.are_rising.Given as goal

abbrev pub invariant-pairs : goal.invariant-pairs
invariant-pairs l = (k : ℕ) → k + 1 < l.later → RisesAt l.keys k
