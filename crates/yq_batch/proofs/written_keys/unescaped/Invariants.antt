use Rattle.std.proofs.Common.{length}
use Rattle.yq_batch.proofs.written_keys.unescaped.Given as goal

abbrev pub decreases-escapes : goal.decreases-escapes
decreases-escapes l = length l.rest
