use Rattle.yq_journal.proofs.SquashLaws.{squash_rests}
use Rattle.yq_journal.proofs.laws.squashes_go_on.Goals as goal

pub returns-clause-rests : goal.returns-clause-rests
returns-clause-rests c = squash_rests
