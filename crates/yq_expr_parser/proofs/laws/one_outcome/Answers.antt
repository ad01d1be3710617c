use Rattle.yq_expr_parser.proofs.OutcomeLaws.{comes_to, only_outcome, some_outcome}
use Rattle.yq_expr_parser.proofs.laws.one_outcome.Goals as goal

pub returns-clause-outcome : goal.returns-clause-outcome
returns-clause-outcome c = comes_to

pub returns-clause-one : goal.returns-clause-one
returns-clause-one c = only_outcome

pub returns-clause-total : goal.returns-clause-total
returns-clause-total c = some_outcome
