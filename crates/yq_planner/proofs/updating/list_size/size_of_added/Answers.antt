use Rattle.std.{proofs.Common.{◌≡◌, min, map, None, refl, sym, ap, ◌∙◌, subst, arith, rules}, proofs.lemmas.List.length-map}
use Rattle.yq_core.{specs.Keys.depth, specs.Tree.list, specs.Values.{items, value_node}}
use Rattle.yq_planner.{specs.ListSizes.HasSize, proofs.ListSizeLaws.list_size}
use Rattle.yq_planner.proofs.SubstituteLaws.{node_of-list, node_of-scalar, some_there}
use Rattle.yq_semantics.{specs.Changes.has_long_key, specs.RightValues.as_items, proofs.ValueMaps.node_of-map}
use Rattle.yq_planner.proofs.updating.list_size.size_of_added.Goals as goal

pub returns-else-is_empty : goal.returns-else-is_empty
returns-else-is_empty c =
    let node : value_node c.args.value.now ≡ list None (items (map value_node c.in-List.items.items)) = ap value_node c.in-List.is ∙ node_of-list c.in-List.items in
    let count = length-map c.in-List.items.items value_node in
    let there = some_there _ (sym c.is_empty.ensures ∙ c.if-is_empty.false) in
    subst (λ v. HasSize (list None (as_items v)) (record { depth = c.depth_of-depth.result; items = c.len.result })) (sym node)
    (list_size (map value_node c.in-List.items.items) c.depth_of-depth.result _ (omega (arith, there, count)) (ap has_long_key (sym node) ∙ c.requires)
    (c.depth_of-depth.ensures ∙ ap (λ n. min 65 (depth n)) node) refl (omega (arith, c.len.ensures, count)))

pub returns-in-Scalar : goal.returns-in-Scalar
returns-in-Scalar c = search (rules, c.in-Scalar.is, node_of-scalar, c.size_around.ensures)

pub returns-in-Map : goal.returns-in-Map
returns-in-Map c = search (rules, c.in-Map.is, node_of-map, c.size_around-in-Map.ensures)
