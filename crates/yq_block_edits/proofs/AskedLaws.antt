-- Steps for which values of the code ask.
use Rattle.std.{proofs.Common.{◌≡◌, Bool, sym, ap, String}, specs.declared.alloc.Global.Global, specs.Prelude.Vec}
use Rattle.yq_core.{specs.declared.value.Value.Value, specs.Values.{entries_of, value_node}}
use Rattle.yq_edit_rules.{specs.Layouts.{children_ask, node_asks}, proofs.ListLaws.map_node}
use Rattle.yq_core.specs.declared.value.Value.TheVariants as values

-- a mapping asks as its entries do
pub map_asked : (dashes : Bool) (v : Vec (String Global × Value) Global) → children_ask dashes (entries_of v.items) ≡ node_asks dashes (value_node (values.Map v))
unfolding node_asks
map_asked dashes v = sym (ap (node_asks dashes) (map_node v))
