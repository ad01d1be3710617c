use Rattle.yq_edit_rules.proofs.BlockChangeLaws.{node_replaced, root_replaced, entry_appended, entry_removed, first_removed, first_dropped}
use Rattle.yq_edit_rules.proofs.BlockChangeLaws.{entry_relabelled}
use Rattle.yq_edit_rules.proofs.documents.operations_read.Goals as goal

pub returns-clause-replaced : goal.returns-clause-replaced
returns-clause-replaced c = node_replaced

pub returns-clause-root : goal.returns-clause-root
returns-clause-root c = root_replaced

pub returns-clause-appended : goal.returns-clause-appended
returns-clause-appended c = entry_appended

pub returns-clause-removed : goal.returns-clause-removed
returns-clause-removed c = entry_removed

pub returns-clause-relabelled : goal.returns-clause-relabelled
returns-clause-relabelled c = entry_relabelled

pub returns-clause-first : goal.returns-clause-first
returns-clause-first c = first_removed

pub returns-clause-dropped : goal.returns-clause-dropped
returns-clause-dropped c = first_dropped
