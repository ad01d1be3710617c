use Rattle.std.proofs.Common.{refl}
use Rattle.yq_outline.proofs.WalkPositions.{position_line}
use Rattle.yq_compose.proofs.sound.repeated_line.Goals as goal

pub line_key-requires-clause-line : goal.line_key-requires-clause-line
line_key-requires-clause-line c = position_line c.args.x.rows.now c.args.x.document c.lines.at c.lines.invariant (c.lines-test.ensures.some refl)

pub position_after-at-requires-clause-position : goal.position_after-at-requires-clause-position
position_after-at-requires-clause-position c = position_line c.args.x.rows.now c.args.x.document c.lines.at c.lines.invariant (c.lines-test.ensures.some refl)
