use Rattle.std.proofs.Common.{◌-◌, length}
use Rattle.yq_compose.{specs.Named.all_named, proofs.NearLaws.IsBoundTo}
use Rattle.yq_compose.proofs.near.all_near.Given as goal

abbrev pub decreases-names : goal.decreases-names
decreases-names l = length l.names - l.at

abbrev pub invariant-names : goal.invariant-names
invariant-names l = IsBoundTo (all_named l.names) l.at
