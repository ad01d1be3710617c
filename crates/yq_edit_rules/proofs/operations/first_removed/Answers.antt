use Rattle.yq_edit_rules.proofs.FirstRowLaws.{first_row_moved, first_row_dropped}
use Rattle.yq_edit_rules.proofs.operations.first_removed.Goals as goal

pub returns-clause-moved : goal.returns-clause-moved
returns-clause-moved c = first_row_moved

pub returns-clause-dropped : goal.returns-clause-dropped
returns-clause-dropped c = first_row_dropped
