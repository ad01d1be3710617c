use Rattle.std.{proofs.Common.{true, false, eqb, sym, ap, ◌∙◌}, proofs.lemmas.Bool.{eq-eqb, ne_eqb}}
use Rattle.yq_row_table.specs.View.{slices}
use Rattle.yq_outline.{proofs.WalkMarks.head_agrees, proofs.WalkPositions.located}
use Rattle.yq_row_walk.proofs.position_marks.has_head_by.Goals as goal

pub returns-then-position-marks : goal.returns-then-position-marks
returns-then-position-marks c = λ h l is.
    let k = located c.args.rows.now c.args.document h c.args.position c.requires.position in
    c.has_head.ensures (slices k.row) k.pieces
    ∙ head_agrees c.args.rows.now c.args.document h c.args.position c.requires.position l is true (slices k.row) k.pieces
    (sym (eq-eqb c.args.position.line _ (c.if-position-marks.true ∙ c.requires.marks (slices k.row) k.pieces)))

pub returns-else-position-marks : goal.returns-else-position-marks
returns-else-position-marks c = λ h l is.
    let k = located c.args.rows.now c.args.document h c.args.position c.requires.position in
    let no = ne_eqb c.args.position.line c.args.marks c.if-position-marks.false in
    no
    ∙ head_agrees c.args.rows.now c.args.document h c.args.position c.requires.position l is false (slices k.row) k.pieces
    (sym no ∙ ap (eqb c.args.position.line) (c.requires.marks (slices k.row) k.pieces))
