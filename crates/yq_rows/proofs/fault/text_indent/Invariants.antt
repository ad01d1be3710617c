use Rattle.std.proofs.Common.{length}
use Rattle.yq_rows.proofs.fault.text_indent.Given as goal

abbrev pub decreases-lines : goal.decreases-lines
decreases-lines l = length l.rest
