use Rattle.std.{proofs.Common.{◌≡◌, ◌≤◌, length, take}, specs.Vec.Iter.{into_iter_items, into_iter_len}}
use Rattle.yq_semantics.specs.Under.{ops_under, part_ops}
use Rattle.yq_edit_laws.{specs.Carried.carry_all, specs.Edit.edit_after, specs.Valid.AreServed}
use Rattle.yq_splice.proofs.under.carry_each_under.Given as goal

abbrev pub invariant-operations : goal.invariant-operations
invariant-operations l = record {
  whole : edit_after l.splices.items (carry_all (ops_under (take l.depth l.steps.items) (into_iter_items l.op-iterator)) l.session.text) ≡
      edit_after l.fn.splices.items (carry_all (part_ops l.fn.part) l.fn.text);
  serves : AreServed (ops_under (take l.depth l.steps.items) (into_iter_items l.op-iterator)) l.session.text;
  within : l.depth ≤ length l.steps.items;
  counted : into_iter_len l.op-iterator ≡ length (into_iter_items l.op-iterator);
}
