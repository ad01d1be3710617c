-- Operations whose values are valid have valid operands: their keys and texts are UTF-8, as each text of the code.
use Rattle.std.proofs.Common.{List, [], ◌∷◌, ◌++◌, map}
use Rattle.yq_core.{specs.Entries.tree_step, specs.Paths.Step}
use Rattle.yq_semantics.{specs.Operations.{Operation, operation_of, operations_of}, specs.Under.{all_under, operation_under}}
use Rattle.yq_semantics.{specs.declared.op.Op.Op, specs.declared.under.OpsUnder.OpsUnder}
use Rattle.yq_planner.specs.ValidChanges.{HasValidValue, HaveValidValues, HoldValidValues}
use Rattle.yq_edit_rules.specs.Operands.{HasOperand}
use Rattle.yq_edit_laws.{specs.Valid.HaveOperands, proofs.OperandLaws.{key_valid, text_valid}}
use Rattle.yq_semantics.specs.declared.op.Op.TheVariants as op

pub operand_valid : (x : Op) → HasValidValue (operation_of x) → HasOperand (operation_of x)
operand_valid (op.Replace p v) h = h
operand_valid (op.Append p k v) h = (key_valid k, h)
operand_valid (op.Remove p) h = tt
operand_valid (op.LineComment p text) h = text_valid text
operand_valid (op.HeadComment p text) h = text_valid text

pub operands_valid : (xs : List Op) → HoldValidValues xs → HaveOperands (operations_of xs)
operands_valid [] h = tt
operands_valid (x ∷ xs) h = (operand_valid x h.0, operands_valid xs h.1)

-- the same below a node
operand_under : (front : List Step) (x : Op) → HasValidValue (operation_under front (operation_of x)) → HasOperand (operation_under front (operation_of x))
operand_under front (op.Replace p v) h = h
operand_under front (op.Append p k v) h = (key_valid k, h)
operand_under front (op.Remove p) h = tt
operand_under front (op.LineComment p text) h = text_valid text
operand_under front (op.HeadComment p text) h = text_valid text

operands_under : (front : List Step) (xs : List Op) (others : List Operation) → (HaveValidValues others → HaveOperands others) →
    HaveValidValues (map (operation_under front) (operations_of xs) ++ others) → HaveOperands (map (operation_under front) (operations_of xs) ++ others)
operands_under front [] others rest h = rest h
operands_under front (x ∷ xs) others rest h = (operand_under front x h.0, operands_under front xs others rest h.1)

pub parts_valid : (xs : List OpsUnder) → HaveValidValues (all_under xs) → HaveOperands (all_under xs)
parts_valid [] h = tt
parts_valid (x ∷ xs) h = operands_under (map tree_step x.front.items) x.ops.items (all_under xs) (parts_valid xs) h
