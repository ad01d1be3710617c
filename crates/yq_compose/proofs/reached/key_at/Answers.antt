use Rattle.std.proofs.Common.{Some, ap, ◌∙◌}
use Rattle.yq_outline.{specs.Outline.key_of, proofs.WalkPositions.located}
use Rattle.yq_row_table.specs.View.{slices}
use Rattle.yq_compose.{proofs.ReachedLaws.{key_some, none_of}, proofs.ReadyLaws.row_within}
use Rattle.yq_compose.proofs.reached.key_at.Goals as goal

pub returns-then-not-has_key : goal.returns-then-not-has_key
returns-then-not-has_key c = λ h l is. none_of (key_of l.mark) (c.if-not-has_key.ensures h l is)

pub row_key-requires-clause-within : goal.row_key-requires-clause-within
row_key-requires-clause-within c = let x = c.args.x in row_within x.text.now x.rows.now x.decoded.now x.document c.args.at.position c.requires.ready c.requires.line

pub row_key-requires-clause-decoded : goal.row_key-requires-clause-decoded
row_key-requires-clause-decoded c = c.requires.reached.decoded

pub returns : goal.returns
returns c = λ h l is.
    let x = c.args.x in
    let k = located x.rows.now x.document h c.args.at.position c.requires.line in
    ap Some (c.row_key.ensures (slices k.row) k.pieces) ∙ key_some x.rows.now x.document h c.args.at.position c.requires.line l is (c.if-not-has_key.ensures h l is)
