use Rattle.std.proofs.Common.{rules}
use Rattle.yq_row_walk.proofs.LevelMarks.{bare_at}
use Rattle.yq_row_walk.proofs.position_marks.is_bare_at.Goals as goal

pub returns : goal.returns
returns c = search (rules, bare_at)
