use Rattle.std.proofs.Common.{rules}
use Rattle.yq_journal.proofs.RunLaws.{turned}
use Rattle.yq_journal.proofs.squash.replace_run.Goals as goal

pub returns : goal.returns
returns c = search (rules, turned)
