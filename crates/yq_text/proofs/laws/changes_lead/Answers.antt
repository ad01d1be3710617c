use Rattle.yq_text.proofs.ScriptLaws as laws
use Rattle.yq_text.proofs.laws.changes_lead.Goals as goal

pub returns-clause-texts : goal.returns-clause-texts
returns-clause-texts c = laws.changes_lead

pub returns-clause-lengths : goal.returns-clause-lengths
returns-clause-lengths c = laws.changes_lengths
