use Rattle.yq_text.proofs.ExtentLaws.{kept_of_old, kept_of_new}
use Rattle.yq_text.proofs.laws.outside_stays.Goals as goal

pub returns-clause-old : goal.returns-clause-old
returns-clause-old c = kept_of_old

pub returns-clause-new : goal.returns-clause-new
returns-clause-new c = kept_of_new
