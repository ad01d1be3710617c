use Rattle.std.proofs.Common.{ℕ, ◌<◌}
use Rattle.yq_core.specs.Keys.{DiffersBefore}
use Rattle.yq_scalar_reader.proofs.DistinctKeys.{texts}
use Rattle.yq_scalar_reader.proofs.keys.all_differ.Given as goal

abbrev pub invariant-each : goal.invariant-each
invariant-each l = (k : ℕ) → k < l.at → DiffersBefore (texts l.keys) k
