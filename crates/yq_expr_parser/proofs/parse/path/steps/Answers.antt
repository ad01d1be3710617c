use Rattle.std.{proofs.Common.{rules, arith, ap, ◌∙◌, map}, proofs.lemmas.Result.err_from_is_err_and}
use Rattle.yq_expr_parser.proofs.LoopSteps.{onto, step_end, loop_fails, failed, before_some, step_lessens}
use Rattle.yq_expr_parser.{proofs.ReadSteps.{onto_nothing, step_pushed}, specs.Lexing.tokens, specs.Parse.{step_at, many}}
use Rattle.yq_semantics.specs.View.{program_step}
use Rattle.yq_expr_parser.proofs.parse.path.steps.Goals as goal

pub returns-in_err-step-clause-value : goal.returns-in_err-step-clause-value
returns-in_err-step-clause-value c =
    failed _ c.from_residual.result _ _ (err_from_is_err_and c.from_residual.result c.from_residual.ensures.1)
    (loop_fails step_at step_lessens _ _ _ c.steps.invariant.3 _ c.in_err-step.ensures.value)

pub steps-preserved : goal.steps-preserved
steps-preserved c =
    let less = before_some _ _ _ _ c.in_ok-step.ensures.shorter c.in-Some.is in (
      search rules,
      omega (arith, less, c.steps.invariant.1),
      (λ some. omega (arith, less, c.steps.invariant.1)),
      step_pushed program_step step_at step_lessens _ _ _ c.steps.invariant.3 _ c.in_ok-step.ensures.value _ _ c.in-Some.is _ c.in_ok-push-in-Some.ensures.items,
    )

pub returns-in-None-clause-value : goal.returns-in-None-clause-value
returns-in-None-clause-value c = step_end program_step step_at step_lessens _ _ _ c.steps.invariant.3 _ c.in_ok-step.ensures.value c.in-None.is

pub steps-init : goal.steps-init
steps-init c = (
  search rules,
  omega arith,
  (λ some. omega (arith, some, c.new-steps.ensures.len)),
  ap (λ l. onto (map program_step l) (many step_at (tokens c.args.text.now))) c.new-steps.ensures.items ∙ onto_nothing (many step_at (tokens c.args.text.now)),
)

pub steps-smaller : goal.steps-smaller
steps-smaller c = before_some _ _ _ _ c.in_ok-step.ensures.shorter c.in-Some.is
