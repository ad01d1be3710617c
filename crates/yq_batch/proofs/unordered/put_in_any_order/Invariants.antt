use Rattle.std.proofs.Common.{◌≡◌, length}
use Rattle.yq_semantics.specs.Operations.{operations_of}
use Rattle.yq_edit_laws.{specs.Carried.carry_all, specs.Edit.edit_after, specs.Valid.AreServed}
use Rattle.yq_batch.{specs.OpenRuns.{RunsOpen, open_text}, specs.Runs.cut_with}
use Rattle.yq_batch.proofs.unordered.put_in_any_order.Given as goal

abbrev pub invariant-operations : goal.invariant-operations
invariant-operations l = record {
  whole : edit_after l.run.splices.items (carry_all (operations_of l.rest) (open_text (cut_with l.fn.at) l.run)) ≡ carry_all (operations_of l.fn.ops) l.fn.at.cut.now;
  serves : AreServed (operations_of l.rest) (open_text (cut_with l.fn.at) l.run);
  runs : RunsOpen l.fn.at l.run;
}

abbrev pub decreases-operations : goal.decreases-operations
decreases-operations l = length l.rest
