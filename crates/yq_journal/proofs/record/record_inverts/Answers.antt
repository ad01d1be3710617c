use Rattle.yq_journal.proofs.RecordLaws.{undone_after_done, done_after_undone}
use Rattle.yq_journal.proofs.record.record_inverts.Goals as goal

pub returns : goal.returns
returns c = λ r b d. (undone_after_done r b d, done_after_undone r b d)
