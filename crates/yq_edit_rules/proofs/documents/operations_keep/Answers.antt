use Rattle.yq_edit_rules.proofs.SoundRootLess.{relabel_keeps}
use Rattle.yq_edit_rules.proofs.documents.operations_keep.Goals as goal

pub returns-clause-relabelled : goal.returns-clause-relabelled
returns-clause-relabelled c = relabel_keeps
