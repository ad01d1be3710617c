use Rattle.std.proofs.Common.{sym, ◌∙◌, arith}
use Rattle.yq_outline.{proofs.WalkRows.{under_more, under_stop}, proofs.WalkPositions.has_row}
use Rattle.yq_row_walk.proofs.position.following_row.Goals as goal

pub returns-then-found-level-clause-value : goal.returns-then-found-level-clause-value
returns-then-found-level-clause-value c =
    let ss = c.args.rows.now.rows in
    let x = has_row ss c.rows.at (omega (arith, c.rows-test.true, c.requires.within)) in
    under_stop ss c.args.level c.rows.at c.args.end x.0 x.1 c.rows-test.true (omega (arith, c.level_at-found.ensures x.0 x.1, c.if-found-level.true)) ∙ sym c.rows.invariant

pub rows-preserved : goal.rows-preserved
rows-preserved c =
    let ss = c.args.rows.now.rows in
    let x = has_row ss c.rows.at (omega (arith, c.rows-test.true, c.requires.within)) in
    c.rows.invariant ∙ under_more ss c.args.level c.rows.at c.args.end x.0 x.1 c.rows-test.true (omega (arith, c.level_at-found.ensures x.0 x.1, c.if-found-level.false))
