use Rattle.yq_outline.proofs.WalkPositions.{position_line}
use Rattle.yq_compose.{proofs.ReachedLaws.{reached_end, reached_line}, proofs.ReadyLaws.row_within}
use Rattle.yq_compose.proofs.reached.with_level.Goals as goal

pub returns-then-position-x-clause-reached : goal.returns-then-position-x-clause-reached
returns-then-position-x-clause-reached c = reached_end c.args.x.decoded.now c.args.x.rows.now c.args.x.document c.args.position c.args.decoded c.requires.decoded c.requires.position c.if-position-x.true

pub level_at-requires-clause-within : goal.level_at-requires-clause-within
level_at-requires-clause-within c =
    let x = c.args.x in
    row_within x.text.now x.rows.now x.decoded.now x.document c.args.position c.requires.ready (position_line x.rows.now x.document c.args.position c.requires.position c.if-position-x.false)

pub level_at-requires-clause-rows_view : goal.level_at-requires-clause-rows_view
level_at-requires-clause-rows_view c = c.requires.ready.rows_view

pub returns-clause-reached : goal.returns-clause-reached
returns-clause-reached c =
    let x = c.args.x in
    reached_line x.decoded.now x.rows.now x.document c.args.position c.args.decoded c.requires.decoded (position_line x.rows.now x.document c.args.position c.requires.position c.if-position-x.false) c.level_at.result c.level_at.ensures
