use Rattle.std.proofs.Common.{map, ap}
use Rattle.yq_core.specs.Entries.{tree_step}
use Rattle.yq_documents.specs.Reading.{cut_of}
use Rattle.yq_places.proofs.WalkDocuments.{row_line_found, row_line_reached}
use Rattle.yq_lookup.proofs.CutRows.{walk_found}
use Rattle.yq_lookup.proofs.cut_text.CutText.row_line.Goals as goal

pub returns : goal.returns
returns c =
    let walk = c.in_ok-walk.walk in
    let steps = map tree_step c.deref.result.now in
    let f = walk_found c.args.self.now c.args.path.now.doc walk c.in_ok-walk.ensures.cut c.in_ok-walk.ensures.place in
    row_line_found walk.rows.now (cut_of c.args.self.now) c.args.path.now walk.document steps _ f (ap (map tree_step) c.deref.ensures.value)
    (row_line_reached walk.rows.now walk.document f.document.are_there steps c.line_at.result c.line_at.ensures.within (c.line_at.ensures.found f.document))
