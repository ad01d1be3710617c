use Rattle.yq_expr.proofs.verdicts.judging.judge_one.Goals.{then-adds, else-adds}
use Rattle.yq_expr.proofs.verdicts.judging.judge_one.Goals as goal

pub returns : goal.returns
returns c = λ root named within.
    let found = c.judge_found.ensures root named within in
    elim c.if-adds.branch [
      | then-adds w ↦ rw w.if-adds.true (rw w.effect-is at found)
      | else-adds w ↦ rw w.if-adds.false (rw w.effect-is at found)
    ]
