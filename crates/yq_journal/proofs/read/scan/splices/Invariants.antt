use Rattle.yq_journal.{specs.Json.{change_data, splice_of}, proofs.FrontLaws.FoundSoFar}
use Rattle.yq_journal.proofs.read.scan.splices.Given as goal

abbrev pub invariant-splices : goal.invariant-splices
invariant-splices l = FoundSoFar change_data splice_of l.found.items l.later l.text l.left
