use Rattle.std.proofs.Common.{◌≡◌, Some, length}
use Rattle.yq_documents.specs.Reading.{cut_of}
use Rattle.yq_semantics.specs.Operations.{operations_of}
use Rattle.yq_edit_laws.specs.Valid.{AreServed}
use Rattle.yq_batch.{specs.HeadRuns.all_on, specs.RowRuns.IsRowsRun, specs.Runs.now_text}
use Rattle.yq_batch.proofs.heads.put_in_later.Given as goal

abbrev pub invariant-heads : goal.invariant-heads
invariant-heads l = record {
  same : l.way ≡ l.fn.cut;
  whole : all_on l.rest (cut_of l.fn.cut) l.run.run ≡ all_on l.fn.ops (cut_of l.fn.cut) l.fn.run.run;
  serves : AreServed (operations_of l.rest) (now_text (cut_of l.fn.cut) l.run.run);
  runs : IsRowsRun (cut_of l.fn.cut) (Some l.last) l.run.run;
}

abbrev pub decreases-heads : goal.decreases-heads
decreases-heads l = length l.rest
