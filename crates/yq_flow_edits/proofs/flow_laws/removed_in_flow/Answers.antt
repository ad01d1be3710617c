use Rattle.yq_flow_edits.proofs.RemoveLaws.{removed}
use Rattle.yq_flow_edits.proofs.flow_laws.removed_in_flow.Goals as goal

pub returns : goal.returns
returns c = λ x s e h at pairs. removed x s e h at pairs
