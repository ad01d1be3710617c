use Rattle.std.proofs.Common.{◌≡◌, [], None, string_bytes, ap, ◌∙◌, rules}
use Rattle.yq_core.{specs.Scalar.ScalarText, specs.Tree.scalar, specs.Values.value_node, specs.declared.kind.Kind.TheVariants.Text}
use Rattle.yq_planner.proofs.ScalarValues.{scalar_value}
use Rattle.yq_expr.proofs.SumLaws.{small_list, small_text}
use Rattle.yq_expr.proofs.sizes.sum_sizes.SumSize.small_value.Goals as goal

pub returns-in_ok-small-in-List : goal.returns-in_ok-small-in-List
returns-in_ok-small-in-List c = λ j sized. small_list j c.in-List.size (value_node c.in_ok-small-in-List.small) (rw c.in-List.is at sized) c.in_ok-small-in-List.ensures

pub returns-in-Text : goal.returns-in-Text
returns-in-Text c = λ j sized.
    let empty : string_bytes c.new.result ≡ [] = search rules in
    let is = scalar_value c.string.result ∙ (ap (λ (s : ScalarText). scalar None s.kind s.text) c.string.ensures ∙ ap (scalar None Text) empty) in
    small_text j c.in-Text.field-0 _ (rw c.in-Text.is at sized) is
