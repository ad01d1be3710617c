use Rattle.std.proofs.Common.{rules}
use Rattle.yq_outline.proofs.WalkPositions.{after_agrees}
use Rattle.yq_row_walk.proofs.position.after_level.Goals as goal

pub returns-clause-end : goal.returns-clause-end
returns-clause-end c = search (rules, after_agrees)
