use Rattle.yq_store.proofs.ModeLaws.{within_within}
use Rattle.yq_store.proofs.disk.ownership.Rights.of_old_journal.Goals as goal

pub returns-else-journal-file-clause-within : goal.returns-else-journal-file-clause-within
returns-else-journal-file-clause-within c =
    within_within c.mode_in_another_group.result c.mode_within-mode.result c.args.file.mode c.mode_in_another_group.ensures.within c.mode_within-mode.ensures.within
