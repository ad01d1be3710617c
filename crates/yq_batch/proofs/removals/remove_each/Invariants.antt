use Rattle.std.proofs.Common.{◌≡◌, length}
use Rattle.yq_text.specs.TextGapBuffer.{buffer_text}
use Rattle.yq_semantics.specs.Operations.{operations_of}
use Rattle.yq_edit_laws.specs.Valid.{AreServed}
use Rattle.yq_batch.{specs.RemovalRuns.{RemovesSo, all_left}, specs.Runs.{cut_with, stem_of}}
use Rattle.yq_batch.proofs.removals.remove_each.Given as goal

abbrev pub invariant-operations : goal.invariant-operations
invariant-operations l = record {
  whole : all_left l.rest l.run ≡ all_left l.fn.ops l.fn.run;
  serves : AreServed (operations_of l.rest) (buffer_text l.run.text);
  runs : RemovesSo (cut_with l.fn.at) l.fn.at.doc (stem_of l.fn.at) l.known l.run;
}

abbrev pub decreases-operations : goal.decreases-operations
decreases-operations l = length l.rest
