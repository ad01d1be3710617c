use Rattle.std.proofs.Common.{◌≡◌, length}
use Rattle.yq_journal.specs.Record.{meet}
use Rattle.yq_journal.proofs.squash.meets.Given as goal

abbrev pub invariant-pairs : goal.invariant-pairs
invariant-pairs l = meet l.rest ≡ meet l.records

abbrev pub decreases-pairs : goal.decreases-pairs
decreases-pairs l = length l.rest
