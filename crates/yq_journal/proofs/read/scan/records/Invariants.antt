use Rattle.std.proofs.Common.{true}
use Rattle.yq_journal.{specs.Json.{record_data, record_of}, proofs.FrontLaws.FoundSoFar}
use Rattle.yq_journal.proofs.read.scan.records.Given as goal

abbrev pub invariant-records : goal.invariant-records
invariant-records l = FoundSoFar record_data (record_of true) l.found.items l.later l.text l.left
