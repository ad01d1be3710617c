use Rattle.std.{proofs.Common.{List, map, refl, ap, ◌∙◌}, proofs.lemmas.List.map_push}
use Rattle.yq_core.{specs.Values.{items, value_node}, specs.Tree.Node}
use Rattle.yq_semantics.proofs.ValueMaps.{node_of-map}
use Rattle.yq_planner.{proofs.ScalarValues.scalar_value, proofs.SumLaws.one_item}
use Rattle.yq_core.specs.declared.value.Value.TheVariants as values
use Rattle.yq_planner.proofs.updating.sum.push_items.Goals as goal

pub returns-in_ok-push-in-Scalar : goal.returns-in_ok-push-in-Scalar
returns-in_ok-push-in-Scalar c =
    ap (λ (ns : List Node). items ns) (ap (map value_node) c.in_ok-push-in-Scalar.ensures.items ∙ map_push value_node c.args.items.now.items (values.Scalar c.in-Scalar.scalar))
    ∙ one_item (map value_node c.args.items.now.items) (value_node (values.Scalar c.in-Scalar.scalar)) (value_node c.args.value) _ (scalar_value c.in-Scalar.scalar) (ap value_node c.in-Scalar.is ∙ scalar_value c.in-Scalar.scalar) refl

pub returns-in_ok-push-in-Map : goal.returns-in_ok-push-in-Map
returns-in_ok-push-in-Map c =
    ap (λ (ns : List Node). items ns) (ap (map value_node) c.in_ok-push-in-Map.ensures.items ∙ map_push value_node c.args.items.now.items (values.Map c.in-Map.entries))
    ∙ one_item (map value_node c.args.items.now.items) (value_node (values.Map c.in-Map.entries)) (value_node c.args.value) _ (node_of-map c.in-Map.entries) (ap value_node c.in-Map.is ∙ node_of-map c.in-Map.entries) refl
