use Rattle.std.proofs.Common.{sym, subst}
use Rattle.yq_flow_edits.{specs.Valued.IsValueTree, proofs.ValuedLaws.map_valid}
use Rattle.yq_core.specs.Values.{value_node}
use Rattle.yq_flow_edits.proofs.valid.+values.Goals as goal

pub value_holds-returns-in-Map : goal.value_holds-returns-in-Map
value_holds-returns-in-Map t c = subst (λ v. IsValueTree (value_node v)) (sym c.in-Map.is) (map_valid c.in-Map.entries c.entries_hold.ensures)
