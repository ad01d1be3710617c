use Rattle.yq_flow_edits.{proofs.EditLaws.appended, proofs.ValueEdits.value_appended}
use Rattle.yq_flow_edits.proofs.flow_laws.appended_in_flow.Goals as goal

pub returns : goal.returns
returns c = record {
  item = appended;
  value = λ x label v h is fits. value_appended x label v h is fits.tree fits.room;
}
