use Rattle.std.proofs.Common.{ℕ, ◌<◌}
use Rattle.yq_scalar_reader.proofs.DistinctKeys.{DifferAt}
use Rattle.yq_scalar_reader.proofs.keys.differs_before.Given as goal

abbrev pub invariant-earlier : goal.invariant-earlier
invariant-earlier l = (k : ℕ) → k < l.earlier → DifferAt l.keys k l.at
