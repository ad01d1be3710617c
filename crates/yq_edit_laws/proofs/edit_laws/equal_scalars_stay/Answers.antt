use Rattle.yq_edit_rules.proofs.KeptLaws.{equal_scalars_stay}
use Rattle.yq_edit_laws.proofs.edit_laws.equal_scalars_stay.Goals as goal

pub returns : goal.returns
returns c = equal_scalars_stay
