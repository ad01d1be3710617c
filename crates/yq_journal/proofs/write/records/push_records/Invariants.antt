use Rattle.std.{proofs.Common.true, specs.String.string_bytes}
use Rattle.yq_journal.{specs.Json.{record_data, record_of}, proofs.AddedLaws.SoFar}
use Rattle.yq_journal.proofs.write.records.push_records.Given as goal

abbrev pub invariant-records : goal.invariant-records
invariant-records l = SoFar record_data (record_of true) l.records l.patch-index l.later (string_bytes l.fn.text) (string_bytes l.text)
