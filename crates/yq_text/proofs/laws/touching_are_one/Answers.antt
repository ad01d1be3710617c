use Rattle.yq_text.proofs.TouchLaws.{touching, nothing_kept, kept_in_two}
use Rattle.yq_text.proofs.laws.touching_are_one.Goals as goal

pub returns-clause-touching : goal.returns-clause-touching
returns-clause-touching c = touching

pub returns-clause-nothing : goal.returns-clause-nothing
returns-clause-nothing c = nothing_kept

pub returns-clause-apart : goal.returns-clause-apart
returns-clause-apart c = kept_in_two
