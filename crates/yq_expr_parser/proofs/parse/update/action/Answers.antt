use Rattle.std.proofs.Common.{arith, sym, refl}
use Rattle.yq_expr_parser.{proofs.ReadSteps.{bind_gives, either_some}, specs.Parse.action_at}
use Rattle.yq_expr_parser.proofs.parse.update.action.Goals as goal

pub returns-in-Some-clause-value : goal.returns-in-Some-clause-value
unfolding action_at
returns-in-Some-clause-value c = either_some _ _ _ _ _ (sym c.in-Some.ensures.value) (bind_gives _ _ _ _ c.in_ok-right.ensures.value refl)

pub returns-in-Some-clause-shorter : goal.returns-in-Some-clause-shorter
returns-in-Some-clause-shorter c = omega (arith, c.in_ok-right.ensures.shorter, c.in-Some.ensures.shorter)
