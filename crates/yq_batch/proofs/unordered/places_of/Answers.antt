use Rattle.yq_edit_laws.proofs.OperationsLaws.{first_operand, later_operands}
use Rattle.yq_batch.proofs.unordered.places_of.Goals as goal

pub change_of-requires-clause-operand : goal.change_of-requires-clause-operand
change_of-requires-clause-operand c = first_operand c.operations.rest.now c.op-item.result c.in-len1-up.len_at_least c.op-item.is c.operations.invariant

pub operations-preserved : goal.operations-preserved
operations-preserved c = later_operands c.operations.rest.now c.in-len1-up.len_at_least c.operations.invariant
