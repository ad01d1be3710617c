use Rattle.yq_text.proofs.ScriptLaws.{kept_same, kept_changes}
use Rattle.yq_text.proofs.laws.unchanged_stay.Goals as goal

pub returns-clause-text : goal.returns-clause-text
returns-clause-text c = kept_same

pub returns-clause-splices : goal.returns-clause-splices
returns-clause-splices c = kept_changes
