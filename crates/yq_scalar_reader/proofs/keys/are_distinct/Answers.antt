use Rattle.yq_scalar_reader.proofs.DistinctKeys.{AreDistinct-permutation, AreDistinct-permutation_back}
use Rattle.yq_scalar_reader.proofs.keys.are_distinct.Goals as goal

pub returns : goal.returns
returns c =
    let old = c.args.keys.now in
    let new = c.sort_unstable.new.self in
    let moved = c.sort_unstable.ensures.permutation in
    (λ yes. AreDistinct-permutation_back old new moved (c.neighbours_differ.ensures.0 yes), λ h. c.neighbours_differ.ensures.1 (AreDistinct-permutation old new moved h))
