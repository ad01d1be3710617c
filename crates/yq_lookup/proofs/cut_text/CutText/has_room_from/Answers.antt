use Rattle.yq_text.proofs.PlaceInList.{get_some}
use Rattle.yq_places.proofs.RowLineSpans.{room_agrees, row_within}
use Rattle.yq_lookup.proofs.cut_text.CutText.has_room_from.Goals as goal

pub line_has_room-requires : goal.line_has_room-requires
line_has_room-requires c = row_within c.args.self.now c.rows.result.now c.args.path.now c.in-Some.at c.rows.ensures c.in-Some.ensures

pub returns : goal.returns
returns c =
    let rows = c.rows.result.now in
    let y = get_some rows.rows c.in-Some.at.row (row_within c.args.self.now rows c.args.path.now c.in-Some.at c.rows.ensures c.in-Some.ensures) in
    room_agrees c.args.part c.args.self.now rows c.rows.ensures c.args.path.now c.in-Some.at c.line_has_room.result c.in-Some.ensures
    (λ s same marks. c.line_has_room.ensures y.0 y.1 s same (marks y.0 y.1))
