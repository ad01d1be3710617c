use Rattle.std.proofs.Common.{arith}
use Rattle.yq_scalar_reader.proofs.DistinctKeys.{AreDistinct-from_places, DifferAt-from_growing}
use Rattle.yq_scalar_reader.proofs.keys.are_growing.Goals as goal

pub returns : goal.returns
returns c = λ _. AreDistinct-from_places c.args.keys.now (DifferAt-from_growing c.args.keys.now (λ k h. c.pairs.invariant k (omega arith)))
