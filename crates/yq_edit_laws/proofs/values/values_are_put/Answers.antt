use Rattle.yq_edit_laws.proofs.MarkedValueLaws.{marked_values}
use Rattle.yq_edit_laws.proofs.values.values_are_put.Goals as goal

pub returns : goal.returns
returns c = marked_values
