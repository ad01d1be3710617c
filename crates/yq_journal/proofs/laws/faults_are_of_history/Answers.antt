use Rattle.yq_journal.proofs.SquashLaws.{squash_fault_of}
use Rattle.yq_journal.proofs.laws.faults_are_of_history.Goals as goal

pub returns-clause-squash : goal.returns-clause-squash
returns-clause-squash c = squash_fault_of
