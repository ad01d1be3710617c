use Rattle.std.proofs.Common.{rules}
use Rattle.yq_semantics.proofs.ValueMaps.{node_of-map}
use Rattle.yq_planner.proofs.updating.copied.+copied.Goals as goal

pub copied-returns-in_ok-copied_entries-in-Map : goal.copied-returns-in_ok-copied_entries-in-Map
copied-returns-in_ok-copied_entries-in-Map t c = search (rules, node_of-map)
