use Rattle.std.{proofs.Common.{◌≡◌, ◌<◌, ◌-◌, min, false, length, map, None, sym, ap, ◌∙◌, subst, arith}, proofs.lemmas.List.length-map}
use Rattle.yq_core.{specs.Keys.depth, specs.Tree.{Node, list}, specs.Values.{entries, field_of, items, value_node}}
use Rattle.yq_planner.{specs.Substitutes.IsSubstitute, proofs.SubstituteLaws.{list_for, mapped, node_of-list, some_there}}
use Rattle.yq_semantics.{specs.Changes.has_long_key, proofs.ValueMaps.node_of-map}
use Rattle.yq_planner.proofs.updating.substitute.substitute.Goals as goal
use Rattle.yq_core.specs.Tree as tree

pub returns-in_ok-in_list-in-List : goal.returns-in_ok-in_list-in-List
returns-in_ok-in_list-in-List c =
    let node : value_node c.args.value.now ≡ list None (items (map value_node c.in-List.items.items)) = ap value_node c.in-List.is ∙ node_of-list c.in-List.items in
    let inside : Node = value_node c.in_ok-inside.inside in
    let count = length-map c.in-List.items.items value_node in
    let there = some_there _ (sym c.is_empty.ensures ∙ c.if-is_empty.false) in
    let some : 0 < length (map value_node c.in-List.items.items) = omega (arith, there, count) in
    let fit : has_long_key (list None (items (map value_node c.in-List.items.items))) ≡ false = ap has_long_key (sym node) ∙ (sym c.in_ok-holds_long_key.ensures.long ∙ c.if-branch.false) in
    let deep : c.depth_of.result ≡ min 65 (depth (list None (items (map value_node c.in-List.items.items)))) = c.depth_of.ensures ∙ ap (λ n. min 65 (depth n)) node in
    let inner : depth inside ≡ c.depth_of.result - 1 = c.in_ok-inside.ensures.depth ∙ c.saturating_sub.ensures in
    subst (λ v. IsSubstitute v (value_node c.in_ok-in_list-in-List.field-0)) (sym node)
    (subst (IsSubstitute (list None (items (map value_node c.in-List.items.items)))) (sym c.in_ok-in_list-in-List.ensures)
    (list_for (map value_node c.in-List.items.items) inside c.depth_of.result some fit c.in_ok-inside.ensures.short deep inner))

pub returns-else-is_empty-2 : goal.returns-else-is_empty-2
returns-else-is_empty-2 c =
    let node : value_node c.args.value.now ≡ tree.map None (entries (map field_of c.in-Map.entries.items)) = ap value_node c.in-Map.is ∙ node_of-map c.in-Map.entries in
    let count = length-map c.in-Map.entries.items field_of in
    let there = some_there _ (sym c.is_empty-in-Map.ensures ∙ c.if-is_empty-2.false) in
    let some : 0 < length (map field_of c.in-Map.entries.items) = omega (arith, there, count) in
    mapped (map field_of c.in-Map.entries.items) (value_node c.in_ok-inside.inside) (value_node c.args.value.now) c.depth_of.result node some (sym c.in_ok-holds_long_key.ensures.long ∙ c.if-branch.false) c.in_ok-inside.ensures.short
    c.depth_of.ensures (c.in_ok-inside.ensures.depth ∙ c.saturating_sub.ensures) c.in_map.result c.in_map.ensures.map c.in_map.ensures.short
