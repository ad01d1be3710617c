use Rattle.yq_edit_laws.proofs.RemovingFirstLaws.{one_is_removed}
use Rattle.yq_edit_laws.proofs.edit_laws.one_is_removed.Goals as goal

pub returns : goal.returns
returns c = one_is_removed
