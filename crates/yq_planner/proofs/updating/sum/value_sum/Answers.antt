use Rattle.std.{proofs.Common.rules, proofs.lemmas.Grind.common_steps}
use Rattle.yq_semantics.proofs.ValueMaps.{node_of-map}
use Rattle.yq_planner.proofs.SumLaws.{map_sum}
use Rattle.yq_planner.proofs.updating.sum.value_sum.Goals as goal

pub returns-in_ok-put_entries-in-Map-Map : goal.returns-in_ok-put_entries-in-Map-Map
returns-in_ok-put_entries-in-Map-Map c = search (rules, common_steps, map_sum, node_of-map)
