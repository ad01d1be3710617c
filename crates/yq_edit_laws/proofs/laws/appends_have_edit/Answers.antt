use Rattle.yq_edit_laws.proofs.MoreExists.{takers_have_edit}
use Rattle.yq_edit_laws.proofs.laws.appends_have_edit.Goals as goal

pub returns : goal.returns
returns c = takers_have_edit
