use Rattle.std.proofs.Common.{Some, ap, ◌∙◌}
use Rattle.yq_row_table.specs.View.{slices}
use Rattle.yq_outline.{proofs.WalkMarks.{key_none, key_here}, proofs.WalkPositions.located}
use Rattle.yq_compose.proofs.ReadyLaws.{row_within}
use Rattle.yq_compose.proofs.checked.line_key.Goals as goal

pub rank_at-requires-clause-within : goal.rank_at-requires-clause-within
rank_at-requires-clause-within c = row_within c.args.x.text.now c.args.x.rows.now c.args.x.decoded.now c.args.x.document c.args.at c.requires.ready c.requires.line

pub rank_at-requires-clause-rows_view : goal.rank_at-requires-clause-rows_view
rank_at-requires-clause-rows_view c = c.requires.ready.rows_view

pub returns-then-rank_at-ne2 : goal.returns-then-rank_at-ne2
returns-then-rank_at-ne2 c = λ h l is. key_none c.args.x.rows.now c.args.x.document h c.args.at c.requires.line l is c.rank_at.result c.rank_at.ensures c.if-rank_at-ne2.true

pub row_key-requires-clause-within : goal.row_key-requires-clause-within
row_key-requires-clause-within c = row_within c.args.x.text.now c.args.x.rows.now c.args.x.decoded.now c.args.x.document c.args.at c.requires.ready c.requires.line

pub ahead_from-requires : goal.ahead_from-requires
ahead_from-requires c = c.requires.ready.rise

pub row_key-requires-clause-decoded : goal.row_key-requires-clause-decoded
row_key-requires-clause-decoded c = c.ahead_from.ensures

pub returns : goal.returns
returns c = λ h l is.
    let s = c.args.x.rows.now in
    let k = located s c.args.x.document h c.args.at c.requires.line in
    ap Some (c.row_key.ensures (slices k.row) k.pieces) ∙ key_here s c.args.x.document h c.args.at c.requires.line l is c.rank_at.result c.rank_at.ensures c.if-rank_at-ne2.false
