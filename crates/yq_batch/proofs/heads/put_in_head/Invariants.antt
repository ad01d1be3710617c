use Rattle.std.proofs.Common.{◌≡◌, length}
use Rattle.yq_semantics.specs.Operations.{operations_of}
use Rattle.yq_edit_laws.specs.Valid.{AreServed}
use Rattle.yq_batch.{specs.FilledRuns.{FillsSo, filled_text}, specs.HeadRuns.all_on, specs.Runs.cut_with}
use Rattle.yq_batch.proofs.heads.put_in_head.Given as goal

abbrev pub invariant-operations : goal.invariant-operations
invariant-operations l = record {
  whole : all_on l.rest (cut_with l.fn.at) l.run.run ≡ all_on l.fn.ops (cut_with l.fn.at) l.fn.run.run;
  serves : AreServed (operations_of l.rest) (filled_text l.fn.at l.run);
  runs : FillsSo l.fn.at l.run;
}

abbrev pub decreases-operations : goal.decreases-operations
decreases-operations l = length l.rest
