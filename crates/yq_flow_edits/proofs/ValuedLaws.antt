-- The trees of the code's values.
use Rattle.std.{proofs.Common.{rules, true, false, refl, sym, subst, String, Result, IfOk}, specs.declared.alloc.Global.Global}
use Rattle.std.specs.Prelude.{Vec}
use Rattle.yq_core.{specs.declared.value.Value.Value, specs.Values.{value_node, items_of, entries_of}}
use Rattle.yq_core.proofs.NodesWrittenLaws.{node_list, node_map, map_twice}
use Rattle.yq_flow_edits.specs.Valued.{IsValueTree, AreValueTrees}
use Rattle.yq_core.specs.declared.value.Value.TheVariants as values

abbrev Entry : Type 0
Entry = String Global × Value

-- the tree of a sequence, and that of a mapping
pub list_valid : (v : Vec Value Global) → AreValueTrees false (items_of v.items) → IsValueTree (value_node (values.List v))
list_valid v h = subst IsValueTree (sym (node_list v)) (refl, h)

pub map_valid : (v : Vec Entry Global) → AreValueTrees true (entries_of v.items) → IsValueTree (value_node (values.Map v))
map_valid v h = search (rules, map_twice, node_map)

pub if_ok : {A E P : Type 0} (r : Result A E) → P → IfOk r (λ x. P)
if_ok r h = search rules
