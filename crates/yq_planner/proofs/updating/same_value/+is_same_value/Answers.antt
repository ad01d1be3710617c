use Rattle.std.proofs.Common.{rules}
use Rattle.yq_semantics.proofs.ValueMaps.{node_of-map}
use Rattle.yq_planner.proofs.updating.same_value.+is_same_value.Goals as goal

pub is_same_value-returns-in-Map-Map : goal.is_same_value-returns-in-Map-Map
is_same_value-returns-in-Map-Map t c = search (rules, node_of-map)
