use Rattle.std.{proofs.Common.rules, proofs.lemmas.Grind.common_steps}
use Rattle.yq_semantics.proofs.ValueMaps.{node_of-map}
use Rattle.yq_planner.proofs.LimitLaws.{one_deeper}
use Rattle.yq_planner.proofs.updating.limits.+deeper.Goals as goal

pub is_deeper-returns-else-limit-eq0-2 : goal.is_deeper-returns-else-limit-eq0-2
is_deeper-returns-else-limit-eq0-2 t c = search (rules, common_steps, one_deeper, node_of-map)
