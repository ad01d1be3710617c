use Rattle.std.proofs.Common.{◌∙◌, length, refl, ap}
use Rattle.yq_documents.specs.Located.{steps_of}
use Rattle.yq_places.specs.PlacementViews.{lines_view}
use Rattle.yq_batch.proofs.RowEndAnswers.{root_there}
use Rattle.yq_batch.proofs.row_ends.root_end.Goals as goal

pub returns : goal.returns
returns c =
    root_there c.args.cut.now c.args.path.now (steps_of c.args.path.now) (lines_view c.args.lines.now) _ refl c.text.ensures.read c.requires refl (c.in_ok-at.ensures.0, c.in_ok-at.ensures.1 ∙ ap length c.text.ensures.text)
