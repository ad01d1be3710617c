use Rattle.std.specs.String.{string_bytes}
use Rattle.yq_journal.{specs.Json.{change_data, splice_of}, proofs.AddedLaws.SoFar}
use Rattle.yq_journal.proofs.write.records.push_splices.Given as goal

abbrev pub invariant-splices : goal.invariant-splices
invariant-splices l = SoFar change_data splice_of l.splices l.splice-index l.later (string_bytes l.fn.text) (string_bytes l.text)
