use Rattle.std.proofs.Common.{◌-◌, ◌∙◌, sym}
use Rattle.yq_outline.proofs.WalkPositions.{located}
use Rattle.yq_compose.{proofs.ReadyLaws.row_first_line, proofs.RowContents.free_at}
use Rattle.yq_compose.proofs.anchors.is_free.Goals as goal

pub returns-else-row-x : goal.returns-else-row-x
returns-else-row-x c = λ h a.
    let s = c.args.x.rows.now in
    let d = c.args.x.document in
    let k = located s d h (record { row = c.args.row; line = 0 }) (row_first_line s d c.args.row c.requires.order c.if-row-x.false) in
    c.may_take.ensures h k.line k.is ∙ sym (free_at h.rows (c.args.row - d.first) k.row k.line a k.there k.in_row)
