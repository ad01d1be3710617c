use Rattle.std.proofs.Common.{ap, ◌∙◌, arith}
use Rattle.yq_outline.specs.RowWalk.{line_number}
use Rattle.yq_compose.proofs.PositionOrder.{row_order}
use Rattle.yq_compose.proofs.reached.line_after.Goals as goal

pub with_level-requires-clause-decoded : goal.with_level-requires-clause-decoded
with_level-requires-clause-decoded c =
    let x = c.args.x in
    let h = c.requires.ready.document in
    c.ahead_of.ensures x.decoded.now c.args.at.position.row
    (row_order x.rows.now x.document h c.args.at.position c.next-position.result c.requires.line c.next-position.ensures.position (omega (arith, c.next-position.ensures.number h)))
    c.requires.at.decoded

pub returns-clause-number : goal.returns-clause-number
returns-clause-number c = λ h. ap (line_number c.args.x.document h.rows) c.with_level.ensures.position ∙ c.next-position.ensures.number h
