use Rattle.std.proofs.Common.{◌≡◌, ℕ, Option, length}
use Rattle.yq_documents.specs.Reading.{cut_of}
use Rattle.yq_semantics.specs.Operations.{operations_of}
use Rattle.yq_edit_laws.{specs.Carried.carry_all, specs.Edit.edit_after, specs.Valid.AreServed}
use Rattle.yq_batch.{specs.OpenRows.{ArePutInRows, RunsRows}, specs.OpenRuns.open_text, specs.RowEnds.EndOfEntries}
use Rattle.yq_batch.proofs.any_row.carry_in_any_row.Given as goal

abbrev pub invariant-operations : goal.invariant-operations
invariant-operations l = record {
  document : ℕ;
  end : Option EndOfEntries;
  puts : ArePutInRows (cut_of l.fn.cut) document end l.rest l.left;
  whole : edit_after l.run.splices.items (carry_all (operations_of l.rest) (open_text (cut_of l.fn.cut) l.run)) ≡ carry_all (operations_of l.fn.ops) l.fn.cut;
  serves : AreServed (operations_of l.rest) (open_text (cut_of l.fn.cut) l.run);
  runs : RunsRows (cut_of l.fn.cut) document end l.run;
}

abbrev pub decreases-operations : goal.decreases-operations
decreases-operations l = length l.rest
