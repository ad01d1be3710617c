use Rattle.std.proofs.Common.{◌∙◌, length, refl, ap, arith}
use Rattle.yq_documents.specs.Located.{steps_of}
use Rattle.yq_places.specs.PlacementViews.{held_view}
use Rattle.yq_batch.proofs.RowEndAnswers.{under_there}
use Rattle.yq_batch.proofs.row_ends.under_end.Goals as goal

pub returns : goal.returns
returns c =
    under_there c.args.cut.now c.args.path.now (steps_of c.args.path.now) c.in_ok-line.line (held_view c.args.held.now) _ refl c.text.ensures.read c.requires
    c.in_ok-line.ensures (omega (arith, c.if-held-column.false)) refl (omega (arith, c.in_ok-first.ensures)) (c.in_ok-at.ensures.0, c.in_ok-at.ensures.1 ∙ ap length c.text.ensures.text)
