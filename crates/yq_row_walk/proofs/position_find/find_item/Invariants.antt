use Rattle.std.proofs.Common.{◌≡◌, ◌-◌}
use Rattle.yq_core.specs.Paths.{Nth}
use Rattle.yq_outline.{specs.Ends.part, specs.Places.find_row, specs.Positions.position, specs.Lines.lines_of_rows}
use Rattle.yq_outline.specs.RowWalk.{HasDocument, IsPosition, line_number}
use Rattle.yq_row_walk.specs.Walk.{IsLevelAt}
use Rattle.yq_row_walk.proofs.position_find.find_item.Given as goal

abbrev pub decreases-lines : goal.decreases-lines
decreases-lines l = l.walk.document.end - l.at.row

-- what is looked for is what is looked for from here on
abbrev pub invariant-lines : goal.invariant-lines
invariant-lines l = record {
  at : IsPosition l.walk.rows.now l.walk.document l.at;
  level : IsLevelAt l.walk.rows.now l.walk.document l.at l.level;
  found : (h : HasDocument l.walk.rows.now l.walk.document) →
      position (line_number l.walk.document h.are_there.rows l.fn.under) (find_row (Nth l.index) (part (lines_of_rows h.are_there.rows) (line_number l.walk.document h.are_there.rows l.fn.under) l.floor)) ≡
      position (line_number l.walk.document h.are_there.rows l.at) (find_row (Nth l.left) (part (lines_of_rows h.are_there.rows) (line_number l.walk.document h.are_there.rows l.at) l.floor));
}
