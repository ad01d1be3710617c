use Rattle.std.proofs.Common.{length}
use Rattle.yq_rows.proofs.fault.from_fault.Given as goal

abbrev pub decreases-lines : goal.decreases-lines
decreases-lines l = length l.rest
