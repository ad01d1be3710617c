use Rattle.std.proofs.Common.{◌≡◌, length}
use Rattle.yq_text.specs.TextGapBuffer.{buffer_text}
use Rattle.yq_documents.specs.Reading.{cut_of}
use Rattle.yq_edit_laws.{specs.Carried.carry_all, specs.Edit.edit_after, specs.Valid.AreServed}
use Rattle.yq_semantics.specs.Under.{ops_under}
use Rattle.yq_batch.{specs.RowRemovals.RemovesRows, specs.Under.BeginsWith}
use Rattle.yq_batch.proofs.row_removals.remove_under.Given as goal

abbrev pub invariant-operations : goal.invariant-operations
invariant-operations l = record {
  same : l.way ≡ l.fn.cut;
  begins : BeginsWith l.fn.front l.path;
  whole : edit_after l.run.splices.items (carry_all (ops_under l.fn.front l.rest) (buffer_text l.run.text)) ≡ carry_all (ops_under l.fn.front l.fn.ops) l.fn.cut;
  serves : AreServed (ops_under l.fn.front l.rest) (buffer_text l.run.text);
  runs : RemovesRows (cut_of l.fn.cut) l.fn.doc l.changed l.run;
}

abbrev pub decreases-operations : goal.decreases-operations
decreases-operations l = length l.rest
