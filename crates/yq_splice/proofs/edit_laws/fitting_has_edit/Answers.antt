use Rattle.yq_edit_laws.proofs.EditsHold.{edit_there}
use Rattle.yq_splice.proofs.edit_laws.fitting_has_edit.Goals as goal

pub returns : goal.returns
returns c = edit_there
