use Rattle.yq_core.specs.Values.{value_node}
use Rattle.yq_documents.{specs.Located.steps_of, specs.Reading.cut_of}
use Rattle.yq_places.specs.PlacementViews.{placement_view}
use Rattle.yq_block_edits.proofs.PlacedValueLaws.{placed_there}
use Rattle.yq_block_edits.proofs.replace.value_put_at.Goals as goal

pub returns-2 : goal.returns-2
returns-2 c =
    placed_there c.args.path.now.doc (steps_of c.args.path.now) (value_node c.args.value.now) (cut_of c.args.cut.now) c.layout_for-layout.result c.in_ok-text.text c.is_keyed.result
    (placement_view c.in-Some.placement) c.in_ok-value_put.field-0 c.in-Some.ensures c.is_keyed.ensures c.layout_for-layout.ensures
    (λ l. c.in_ok-text.ensures l (value_node c.args.value.now)) c.in_ok-value_put.ensures
