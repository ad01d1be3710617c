use Rattle.std.proofs.Common.{◌≡◌, ◌-◌, drop}
use Rattle.yq_outline.{specs.LinesReading.have_one_anchor_each, specs.Lines.lines_of_rows, specs.RowWalk.HasRows}
use Rattle.yq_compose.proofs.anchors.second_anchor.Given as goal

-- what is asked of all lines is what is asked from here on
abbrev pub invariant-rows : goal.invariant-rows
invariant-rows l = (h : HasRows l.x.rows.now l.x.document) →
    have_one_anchor_each (lines_of_rows h.rows) ≡ have_one_anchor_each (lines_of_rows (drop (l.row - l.x.document.first) h.rows))
