use Rattle.yq_edit_rules.proofs.MovedLaws.{from_dashes, first_moved, first_emptied}
use Rattle.yq_edit_rules.proofs.documents.rows_moved.Goals as goal

pub returns-clause-moved : goal.returns-clause-moved
returns-clause-moved c = first_moved

pub returns-clause-emptied : goal.returns-clause-emptied
returns-clause-emptied c = first_emptied

pub returns-clause-dashes : goal.returns-clause-dashes
returns-clause-dashes c = from_dashes
