use Rattle.std.proofs.Common.{rules}
use Rattle.yq_row_walk.proofs.LevelMarks.{item_at}
use Rattle.yq_row_walk.proofs.position_marks.is_item.Goals as goal

pub returns-then-index-eq0 : goal.returns-then-index-eq0
returns-then-index-eq0 c = search (rules, item_at)
