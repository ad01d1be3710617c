use Rattle.std.proofs.Common.{length}
use Rattle.yq_semantics.specs.Operations.{operations_of}
use Rattle.yq_edit_laws.specs.Valid.{HaveOperands}
use Rattle.yq_batch.proofs.unordered.places_of.Given as goal

abbrev pub invariant-operations : goal.invariant-operations
invariant-operations l = HaveOperands (operations_of l.rest)

abbrev pub decreases-operations : goal.decreases-operations
decreases-operations l = length l.rest
