use Rattle.std.proofs.Common.{rules, arith}
use Rattle.yq_outline.{proofs.KnownWalks.{goes_on, known_line}, proofs.WalkPositions.line_position}
use Rattle.yq_row_walk.proofs.known_item.walk_begin.Goals as goal

pub returns-clause-found : goal.returns-clause-found
returns-clause-found c = search (rules, goes_on)

pub returns-clause-position : goal.returns-clause-position
returns-clause-position c =
    line_position c.args.walk.now.rows.now c.args.walk.now.document (record { row = c.in-Some.known.row; line = 0 })
    (known_line c.args.walk.now.rows.now c.args.walk.now.document c.args.under c.args.floor c.in-Some.known c.requires.under c.in-Some.ensures.known
    (λ y is. omega (arith, c.level_at.ensures y is, c.if-level_at-known.false)) c.requires.walk.document.are_there)
