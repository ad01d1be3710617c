use Rattle.yq_edit_rules.proofs.ApartLaws.{lines_apart, entries_apart}
use Rattle.yq_edit_rules.proofs.operations.lines_in_rows.Goals as goal

pub returns-clause-lines : goal.returns-clause-lines
returns-clause-lines c = lines_apart

pub returns-clause-entries : goal.returns-clause-entries
returns-clause-entries c = entries_apart
