use Rattle.std.proofs.Common.{◌≡◌, length}
use Rattle.yq_text.specs.TextGapBuffer.{buffer_text}
use Rattle.yq_semantics.specs.Under.{ops_under}
use Rattle.yq_edit_laws.{specs.Carried.carry_all, specs.Edit.edit_after, specs.Valid.AreServed}
use Rattle.yq_batch.{specs.RemovalRuns.RemovesSo, specs.Runs.{cut_with, stem_of}, specs.Under.BeginsWith}
use Rattle.yq_batch.proofs.removals.remove_children.Given as goal

abbrev pub invariant-operations : goal.invariant-operations
invariant-operations l = record {
  begins : BeginsWith l.fn.front l.path;
  whole : edit_after l.run.splices.items (carry_all (ops_under l.fn.front l.rest) (buffer_text l.run.text)) ≡ carry_all (ops_under l.fn.front l.fn.ops) l.fn.at.cut.now;
  serves : AreServed (ops_under l.fn.front l.rest) (buffer_text l.run.text);
  runs : RemovesSo (cut_with l.fn.at) l.fn.at.doc (stem_of l.fn.at) l.known l.run;
}

abbrev pub decreases-operations : goal.decreases-operations
decreases-operations l = length l.rest
