use Rattle.std.proofs.Common.{ℕ, ◌+◌, ◌<◌}
use Rattle.yq_scalar_reader.proofs.DistinctKeys.{DifferAt}
use Rattle.yq_scalar_reader.proofs.keys.neighbours_differ.Given as goal

abbrev pub invariant-pairs : goal.invariant-pairs
invariant-pairs l = (k : ℕ) → k + 1 < l.later → DifferAt l.keys k (k + 1)
