use Rattle.std.proofs.Common.{arith}
use Rattle.yq_scalar_reader.proofs.DistinctKeys.{AreDistinct-from_places, DifferAt-from_rising}
use Rattle.yq_scalar_reader.proofs.keys.are_rising.Goals as goal

pub returns : goal.returns
returns c = λ _. AreDistinct-from_places c.args.keys.now (DifferAt-from_rising c.args.keys.now (λ k h. c.pairs.invariant k (omega arith)))
