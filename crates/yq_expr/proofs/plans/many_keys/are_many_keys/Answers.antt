use Rattle.std.proofs.Common.{arith}
use Rattle.yq_semantics.specs.View.{program_step}
use Rattle.yq_expr.proofs.ManyKeysLaws.{many_keys}
use Rattle.yq_expr.proofs.plans.many_keys.are_many_keys.Goals as goal

pub returns : goal.returns
returns c = many_keys (λ s. program_step s.now) c.args.steps.now c.are_keys.result (omega (arith, c.if-steps-le-DEPTH_LIMIT.false)) c.are_keys.ensures
