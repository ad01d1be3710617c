use Rattle.std.{proofs.Common.rules, proofs.lemmas.Bool.eq-eqb}
use Rattle.yq_outline.proofs.WalkMarks.{item_agrees}
use Rattle.yq_row_walk.proofs.position_marks.is_item_at.Goals as goal

pub returns-then-index-eq0 : goal.returns-then-index-eq0
returns-then-index-eq0 c = search (rules, item_agrees, eq-eqb)
