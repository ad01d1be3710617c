use Rattle.yq_semantics.specs.Operations.{operation_of}
use Rattle.yq_edit_laws.proofs.ApplyLaws.{op_applied, op_refused}
use Rattle.yq_splice.proofs.carrying.apply_op.Goals as goal

pub carry-requires : goal.carry-requires
carry-requires c = (c.requires.before, c.requires.read)

pub returns-clause-done : goal.returns-clause-done
returns-clause-done c = op_applied (operation_of c.args.op.now) c.args.text.now c.operand_holds.ensures c.requires c.carry.result c.carry.ensures

pub returns-clause-refused : goal.returns-clause-refused
returns-clause-refused c = op_refused (operation_of c.args.op.now) c.args.text.now c.operand_holds.ensures c.requires c.carry.result c.carry.ensures
