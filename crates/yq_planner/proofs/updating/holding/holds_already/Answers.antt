use Rattle.std.proofs.Common.{rules}
use Rattle.yq_semantics.proofs.ValueMaps.{node_of-map}
use Rattle.yq_planner.proofs.SumLaws.{held_sum}
use Rattle.yq_planner.proofs.updating.holding.holds_already.Goals as goal

pub returns-in-Map-Map : goal.returns-in-Map-Map
returns-in-Map-Map c = search (rules, node_of-map, held_sum)
