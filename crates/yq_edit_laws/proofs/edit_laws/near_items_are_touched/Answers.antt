use Rattle.yq_edit_laws.proofs.TouchedLaws.{near_touched}
use Rattle.yq_edit_laws.proofs.edit_laws.near_items_are_touched.Goals as goal

pub returns : goal.returns
returns c = near_touched
