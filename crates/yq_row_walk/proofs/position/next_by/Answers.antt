use Rattle.std.proofs.Common.{◌+◌, refl, arith}
use Rattle.yq_outline.proofs.WalkPositions.{next_row}
use Rattle.yq_row_walk.proofs.position.next_by.Goals as goal

pub returns-else-position-marks-clause-number : goal.returns-else-position-marks-clause-number
returns-else-position-marks-clause-number c = λ h.
    next_row c.args.rows.now c.args.document h c.args.position (record { row = c.args.position.row + 1; line = 0 }) c.requires.position
    (λ x e. omega (arith, c.if-position-marks.false, c.requires.marks x e))
    refl refl
