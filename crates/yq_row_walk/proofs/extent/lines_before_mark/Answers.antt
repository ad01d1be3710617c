use Rattle.std.proofs.Common.{◌-◌, ap, ◌∙◌}
use Rattle.yq_outline.{specs.Extents.dash_count, proofs.RowLaws.{none_before, before_colon, before_last}}
use Rattle.yq_row_walk.proofs.extent.lines_before_mark.Goals as goal

pub returns-then-not-has_dashes : goal.returns-then-not-has_dashes
returns-then-not-has_dashes c = λ x e. none_before x (c.if-not-has_dashes.ensures x e)

pub returns-then-has_colon : goal.returns-then-has_colon
returns-then-has_colon c = λ x e. c.dash_count.ensures ∙ (ap dash_count (c.dashes-dashes.ensures x e) ∙ before_colon x (c.if-has_colon.ensures x e))

pub returns-else-has_colon : goal.returns-else-has_colon
returns-else-has_colon c = λ x e. c.before_last.ensures ∙ (ap (λ t. dash_count t - 1) (c.dashes-dashes.ensures x e) ∙ before_last x (c.if-has_colon.ensures x e))
