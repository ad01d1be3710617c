-- The style of a scalar in the place of another one can write it.
use Rattle.std.proofs.Common.{◌≡◌, true, rules}
use Rattle.yq_core.{specs.Scalar.ScalarText, specs.Writable.can_write, specs.Written.IsOneLine, proofs.NodesWrittenLaws.double_when}
use Rattle.yq_core.{specs.declared.style.Place.Place, specs.declared.style.Style.Style}
use Rattle.yq_edit_rules.specs.Style.{style_in}

pub style_writes : (place : Place) (s : ScalarText) (old : Style) → can_write s (style_in place s old) place ≡ true
style_writes place s old = search (rules, double_when)

pub style_inline : (place : Place) (s : ScalarText) (old : Style) → IsOneLine old → IsOneLine (style_in place s old)
style_inline place s old h = search rules
