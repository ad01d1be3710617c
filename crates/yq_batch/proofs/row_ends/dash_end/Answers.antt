use Rattle.std.proofs.Common.{◌∙◌, length, refl, ap}
use Rattle.yq_documents.specs.Located.{steps_of}
use Rattle.yq_places.specs.PlacementViews.{lines_view}
use Rattle.yq_batch.proofs.RowEndAnswers.{dash_there}
use Rattle.yq_batch.proofs.row_ends.dash_end.Goals as goal

pub returns : goal.returns
returns c =
    dash_there c.args.cut.now c.args.path.now (steps_of c.args.path.now) c.in_ok-line.line c.requires.0 (lines_view c.args.lines.now) _ refl c.text.ensures.read c.requires.1
    c.in_ok-line.ensures refl refl (c.in_ok-at.ensures.0, c.in_ok-at.ensures.1 ∙ ap length c.text.ensures.text)
