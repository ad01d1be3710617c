use Rattle.yq_flow_edits.proofs.StyledScalars.{styled_spells}
use Rattle.yq_flow_edits.proofs.flow_laws.scalar_spells.Goals as goal

pub returns : goal.returns
returns c s style h = styled_spells s style h.valid h.line h.writable
