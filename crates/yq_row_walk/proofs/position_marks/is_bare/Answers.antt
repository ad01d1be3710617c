use Rattle.yq_outline.proofs.WalkMarks.{bare_agrees}
use Rattle.yq_row_walk.proofs.position_marks.is_bare.Goals as goal

pub returns : goal.returns
returns c = λ h l is. bare_agrees c.args.rows.now c.args.document h c.args.position c.requires.position l is c.rank_at.result c.rank_at.ensures
