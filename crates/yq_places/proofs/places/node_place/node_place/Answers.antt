use Rattle.std.proofs.Common.{map}
use Rattle.yq_outline.{specs.Lines.lines_of_rows, specs.RowWalk.line_number, proofs.WalkPositions.located}
use Rattle.yq_core.specs.Entries.{tree_step}
use Rattle.yq_places.{specs.NodeReading.place_view, proofs.NodeAtLaws.placed_at}
use Rattle.yq_places.proofs.places.node_place.node_place.Goals as goal

pub returns-clause-found : goal.returns-clause-found
returns-clause-found c = λ h.
    let d = c.args.walk.now.document in
    let k = located c.args.walk.now.rows.now d h.are_there c.in_ok-at.at c.in_ok-at.ensures.within in
    placed_at (lines_of_rows h.are_there.rows) (map tree_step c.args.steps.now) (map tree_step c.in_ok-at.left.now) (line_number d h.are_there.rows c.in_ok-at.at) k.line (place_view d h.are_there.rows c.line_place.result)
    (c.in_ok-at.ensures.found h) k.is (c.line_place.ensures.agrees h.are_there k.line k.is)
