use Rattle.std.proofs.Common.{◌∙◌}
use Rattle.yq_operation.proofs.ChoiceLaws.{put_outside}
use Rattle.yq_operation.proofs.exchanged.replaced.Goals as goal

pub returns-in_default : goal.returns-in_default
returns-in_default c = c.replaced_inside.ensures (c.in_ok-outside.ensures ∙ c.in_default.is)

pub returns : goal.returns
returns c = put_outside c.unless_kept.result _ _ c.in-Some.segments _ _ (c.in_ok-outside.ensures ∙ c.in-Some.is) c.unless_kept.ensures
