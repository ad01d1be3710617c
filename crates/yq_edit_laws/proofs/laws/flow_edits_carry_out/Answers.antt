use Rattle.yq_edit_laws.{proofs.FlowAppendLaws.flow_more_put, proofs.FlowPutLaws.flow_values_put, proofs.FlowRemoveLaws.flow_part_removed}
use Rattle.yq_edit_laws.proofs.laws.flow_edits_carry_out.Goals as goal

pub returns-clause-put : goal.returns-clause-put
returns-clause-put c = flow_values_put

pub returns-clause-more : goal.returns-clause-more
returns-clause-more c = flow_more_put

pub returns-clause-removed : goal.returns-clause-removed
returns-clause-removed c = flow_part_removed
