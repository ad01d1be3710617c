use Rattle.yq_flow_edits.proofs.SpelledLaws.{flow_spells}
use Rattle.yq_flow_edits.proofs.flow_laws.flow_spells.Goals as goal

pub returns : goal.returns
returns c = flow_spells
