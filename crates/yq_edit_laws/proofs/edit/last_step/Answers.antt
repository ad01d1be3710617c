use Rattle.yq_core.specs.Entries.{tree_step}
use Rattle.yq_edit_laws.proofs.FlowAnswers.{steps_last}
use Rattle.yq_edit_laws.proofs.edit.last_step.Goals as goal

pub returns-in-len1-up : goal.returns-in-len1-up
returns-in-len1-up c = steps_last tree_step c.last-item.result c.args.steps.now c.in-len1-up.len_at_least c.last-item.is
