use Rattle.std.proofs.Common.{◌∙◌}
use Rattle.yq_core.specs.Values.{value_node}
use Rattle.yq_row_table.specs.Rows.{cut_text}
use Rattle.yq_documents.specs.Reading.{cut_of}
use Rattle.yq_operation.proofs.ChoiceLaws.{put_inside, put_nowhere}
use Rattle.yq_operation.proofs.exchanged.replaced_inside.Goals as goal

pub returns-in_default : goal.returns-in_default
returns-in_default c =
    λ h. put_nowhere c.unless_kept.result (cut_text (cut_of c.args.cut.now)) (value_node c.args.value.now) _ _ _ h (c.in_ok-inside.ensures ∙ c.in_default.is) c.unless_kept.ensures

pub returns : goal.returns
returns c = λ h. put_inside (cut_text (cut_of c.args.cut.now)) (value_node c.args.value.now) _ _ _ c.in-Some.segments h (c.in_ok-inside.ensures ∙ c.in-Some.is)
