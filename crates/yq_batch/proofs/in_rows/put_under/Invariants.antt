use Rattle.std.proofs.Common.{◌≡◌, length}
use Rattle.yq_documents.specs.Reading.{cut_of}
use Rattle.yq_semantics.specs.Under.{ops_under}
use Rattle.yq_edit_laws.{specs.Carried.carry_all, specs.Edit.edit_after, specs.Valid.AreServed}
use Rattle.yq_batch.{specs.RowRuns.IsPlacesRun, specs.Runs.now_text, specs.Under.BeginsWith}
use Rattle.yq_batch.proofs.in_rows.put_under.Given as goal

abbrev pub invariant-operations : goal.invariant-operations
invariant-operations l = record {
  same : l.way ≡ l.fn.cut;
  begins : BeginsWith l.fn.front l.path;
  whole : edit_after l.run.splices.items (carry_all (ops_under l.fn.front l.rest) (now_text (cut_of l.fn.cut) l.run)) ≡ carry_all (ops_under l.fn.front l.fn.ops) l.fn.cut;
  serves : AreServed (ops_under l.fn.front l.rest) (now_text (cut_of l.fn.cut) l.run);
  runs : IsPlacesRun (cut_of l.fn.cut) l.last l.run;
}

abbrev pub decreases-operations : goal.decreases-operations
decreases-operations l = length l.rest
