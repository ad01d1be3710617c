use Rattle.yq_edit_rules.proofs.EditedLaws.{line_exchanged, lines_exchanged, lines_appended, lines_removed, line_relabelled}
use Rattle.yq_edit_rules.proofs.documents.text_changed.Goals as goal

pub returns-clause-line : goal.returns-clause-line
returns-clause-line c = line_exchanged

pub returns-clause-lines : goal.returns-clause-lines
returns-clause-lines c = lines_exchanged

pub returns-clause-appended : goal.returns-clause-appended
returns-clause-appended c = lines_appended

pub returns-clause-removed : goal.returns-clause-removed
returns-clause-removed c = lines_removed

pub returns-clause-relabelled : goal.returns-clause-relabelled
returns-clause-relabelled c = line_relabelled
