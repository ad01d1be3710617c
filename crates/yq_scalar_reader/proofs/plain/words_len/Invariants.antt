use Rattle.std.proofs.Common.{length}
use Rattle.yq_scalar_reader.proofs.LineWords.{OnLine}
use Rattle.yq_scalar_reader.proofs.plain.words_len.Given as goal

abbrev pub decreases-each : goal.decreases-each
decreases-each l = length l.rest

abbrev pub invariant-each : goal.invariant-each
invariant-each l = OnLine l.text l.rest l.n
