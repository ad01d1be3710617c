use Rattle.yq_edit_rules.proofs.CollectionLaws.{collection_replaced, appended, removed, relabelled}
use Rattle.yq_edit_rules.proofs.documents.collection_changed.Goals as goal

pub returns-clause-replaced : goal.returns-clause-replaced
returns-clause-replaced c = collection_replaced

pub returns-clause-appended : goal.returns-clause-appended
returns-clause-appended c = appended

pub returns-clause-removed : goal.returns-clause-removed
returns-clause-removed c = removed

pub returns-clause-relabelled : goal.returns-clause-relabelled
returns-clause-relabelled c = relabelled
