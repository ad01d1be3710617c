use Rattle.std.{proofs.Common.rules, proofs.str.Laws.IsUtf8-had}
use Rattle.yq_journal.proofs.ReadBackLaws.{text_read}
use Rattle.yq_journal.proofs.journal.Journal.to_json.Goals as goal

pub returns-clause-reads_back : goal.returns-clause-reads_back
returns-clause-reads_back c = search (rules, text_read, IsUtf8-had)
