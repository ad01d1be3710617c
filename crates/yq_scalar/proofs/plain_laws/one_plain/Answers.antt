use Rattle.yq_core.{proofs.PlainLaws.{plain_takes, plain_again}, proofs.PlainSpells.plain_one}
use Rattle.yq_scalar.proofs.plain_laws.one_plain.Goals as goal

pub returns-clause-takes : goal.returns-clause-takes
returns-clause-takes c = plain_takes

pub returns-clause-again : goal.returns-clause-again
returns-clause-again c = plain_again

pub returns-clause-one : goal.returns-clause-one
returns-clause-one c flow spaces p q rest other = plain_one flow spaces p rest q other
