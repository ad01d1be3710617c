use Rattle.std.proofs.Common.{◌≡◌, length}
use Rattle.yq_text.specs.TextGapBuffer.{buffer_text}
use Rattle.yq_documents.specs.Reading.{cut_of}
use Rattle.yq_semantics.specs.Operations.{operations_of}
use Rattle.yq_edit_laws.{specs.Carried.carry_all, specs.Valid.AreServed}
use Rattle.yq_batch.{specs.HeadRemovals.RemovesHeads, specs.RemovalRuns.all_left}
use Rattle.yq_batch.proofs.head_removals.remove_in_heads.Given as goal

abbrev pub invariant-heads : goal.invariant-heads
invariant-heads l = record {
  same : l.way ≡ l.fn.cut;
  whole : all_left l.rest l.run ≡ carry_all (operations_of l.fn.ops) l.fn.cut;
  serves : AreServed (operations_of l.rest) (buffer_text l.run.text);
  runs : RemovesHeads (cut_of l.fn.cut) l.fn.found.doc l.last l.run;
}

abbrev pub decreases-heads : goal.decreases-heads
decreases-heads l = length l.rest
