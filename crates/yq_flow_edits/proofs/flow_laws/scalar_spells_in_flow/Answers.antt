use Rattle.yq_flow_edits.proofs.FlowSpelled.{scalar_in_flow}
use Rattle.yq_flow_edits.proofs.flow_laws.scalar_spells_in_flow.Goals as goal

pub returns : goal.returns
returns c s style h = scalar_in_flow s style h.valid h.line h.writable
