use Rattle.std.proofs.Common.{◌-◌, ◌≤◌, length}
use Rattle.yq_journal.specs.Bare.{IsBareBetween}
use Rattle.yq_journal.proofs.bare.is_bare_long.Given as goal

abbrev pub invariant-lanes : goal.invariant-lanes
invariant-lanes l = (l.at ≤ length l.text) × IsBareBetween l.limit l.text 0 l.at

abbrev pub decreases-lanes : goal.decreases-lanes
decreases-lanes l = length l.text - l.at
