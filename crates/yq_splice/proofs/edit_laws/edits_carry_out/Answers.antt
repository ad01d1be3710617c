use Rattle.yq_edit_laws.proofs.EditsHold.{edit_is}
use Rattle.yq_splice.proofs.edit_laws.edits_carry_out.Goals as goal

pub returns : goal.returns
returns c = edit_is
