use Rattle.yq_journal.proofs.HistoryLaws.{move_moves}
use Rattle.yq_journal.proofs.laws.moves_go_on.Goals as goal

pub returns : goal.returns
returns c = move_moves
