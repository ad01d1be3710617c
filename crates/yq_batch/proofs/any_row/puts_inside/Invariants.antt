use Rattle.std.proofs.Common.{◌≡◌, Option}
use Rattle.yq_documents.specs.Reading.{cut_of}
use Rattle.yq_batch.{specs.OpenRows.ArePutInRows, specs.RowEnds.{EndOfEntries, IsKnownEnd}}
use Rattle.yq_batch.proofs.any_row.puts_inside.Given as goal

abbrev pub invariant-rows : goal.invariant-rows
invariant-rows l = record {
  same : l.way ≡ l.fn.cut;
  puts : (e : Option EndOfEntries) → IsKnownEnd (cut_of l.fn.cut) l.fn.doc l.fn.end e → ArePutInRows (cut_of l.fn.cut) l.fn.doc e l.fn.ops l.changes.items;
}
