use Rattle.yq_edit_laws.{proofs.EmptyingAnswers.sole_by_emptying, proofs.SoleLaws.sole_removed}
use Rattle.yq_edit_laws.proofs.laws.emptying_removes.Goals as goal

pub returns-clause-sole : goal.returns-clause-sole
returns-clause-sole c = sole_removed

pub returns-clause-emptying : goal.returns-clause-emptying
returns-clause-emptying c = sole_by_emptying
