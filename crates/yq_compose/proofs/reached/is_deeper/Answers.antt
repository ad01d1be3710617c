use Rattle.std.{proofs.Common.arith, proofs.lemmas.Bool.ltb-true}
use Rattle.yq_compose.proofs.reached.is_deeper.Goals as goal

pub returns-clause-some : goal.returns-clause-some
returns-clause-some c = λ p. c.requires.reached.some (omega (arith, ltb-true c.args.floor c.args.at.level p))

pub returns-clause-test : goal.returns-clause-test
returns-clause-test c = c.requires.reached.deeper c.args.floor
