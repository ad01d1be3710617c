use Rattle.std.proofs.Common.{◌-◌, [], drop, length}
use Rattle.yq_compose.specs.Named.{all_named}
use Rattle.yq_outline.{specs.LinesReading.are_bound, proofs.BoundLaws.Known}
use Rattle.yq_compose.proofs.bound.unbound_alias.Given as goal

abbrev pub invariant-names : goal.invariant-names
invariant-names l = Known l.known (all_named (drop l.at l.names)) (are_bound [] (all_named l.names))

abbrev pub decreases-names : goal.decreases-names
decreases-names l = length l.names - l.at
