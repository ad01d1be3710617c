use Rattle.std.{proofs.Common.{sym, ◌∙◌, eqb-true}, specs.String.string_bytes}
use Rattle.yq_edit_laws.proofs.OperationsLaws.{none_come}
use Rattle.yq_splice.proofs.in_parts.carry_part.Goals as goal

pub returns-then-is_empty : goal.returns-then-is_empty
returns-then-is_empty c = none_come c.args.ops.now (string_bytes c.args.done.text) c.args.done.splices.items (eqb-true _ 0 (sym c.is_empty.ensures ∙ c.if-is_empty.true))
