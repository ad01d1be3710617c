use Rattle.std.proofs.Common.{arith}
use Rattle.yq_places.proofs.WalkLines.{lines_view}
use Rattle.yq_places.proofs.places.entry_place.lines_place.Goals as goal

pub line_start-requires-clause-within : goal.line_start-requires-clause-within
line_start-requires-clause-within c = omega (arith, c.requires.some, c.requires.lines.stop.upto, c.requires.walk.document.are_there.within)

pub row_end-requires-clause-within : goal.row_end-requires-clause-within
row_end-requires-clause-within c = omega (arith, c.requires.some, c.requires.lines.stop.upto, c.requires.walk.document.are_there.within)

pub returns : goal.returns
returns c = λ cut k.
    lines_view c.args.walk.now.rows.now c.args.walk.now.document cut k c.args.from c.args.to c.line_start.result c.row_end.result c.requires.lines c.requires.some c.line_start.ensures (λ r at. c.row_end.ensures cut k.rows r at)
