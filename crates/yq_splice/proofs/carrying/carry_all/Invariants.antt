use Rattle.std.proofs.Common.{◌≡◌, length}
use Rattle.yq_semantics.specs.Operations.{operations_of}
use Rattle.yq_edit_laws.{specs.Carried.carry_all, specs.Edit.edit_after, specs.Valid.AreServed}
use Rattle.yq_splice.proofs.carrying.carry_all.Given as goal

abbrev pub invariant-operations : goal.invariant-operations
invariant-operations l = record {
  whole : edit_after l.splices.items (carry_all (operations_of l.rest) l.session.text) ≡ edit_after l.fn.splices.items (carry_all (operations_of l.fn.ops) l.fn.session.text);
  serves : AreServed (operations_of l.rest) l.session.text;
}

abbrev pub decreases-operations : goal.decreases-operations
decreases-operations l = length l.rest
