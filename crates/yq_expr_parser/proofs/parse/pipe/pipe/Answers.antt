use Rattle.std.{proofs.Common.{rules, arith, sym}, specs.Prelude.codes, proofs.lemmas.Result.err_from_is_err_and}
use Rattle.yq_expr_parser.proofs.LoopSteps.{failed, onto_new, parted_more, parted_end, parted_fails, stage_lessens}
use Rattle.yq_expr_parser.specs.Parse.{stage_at, pipe_at}
use Rattle.yq_semantics.specs.View.{stage_of}
use Rattle.yq_expr_parser.proofs.parse.pipe.pipe.Goals as goal

pub returns-in_err-stage-clause-value : goal.returns-in_err-stage-clause-value
returns-in_err-stage-clause-value c =
    failed _ c.from_residual.result _ _ (err_from_is_err_and c.from_residual.result c.from_residual.ensures.1)
    (parted_fails (codes "|") stage_at _ _ _ c.stages.invariant.2 _ c.in_err-stage.ensures.value)

pub stages-preserved : goal.stages-preserved
stages-preserved c = (
  search rules,
  omega (arith, c.in_ok-stage.ensures.shorter, c.in-Some.ensures.shorter, c.stages.invariant.1),
  parted_more stage_of (codes "|") stage_at stage_lessens _ _ _ c.stages.invariant.2 _ _ c.in_ok-stage.ensures.value _ c.in_ok-push.ensures.items _ (sym c.in-Some.ensures.value),
)

pub returns-in-None-clause-value : goal.returns-in-None-clause-value
returns-in-None-clause-value c = parted_end stage_of (codes "|") stage_at stage_lessens _ _ _ c.stages.invariant.2 _ _ c.in_ok-stage.ensures.value _ c.in_ok-push.ensures.items (sym c.in-None.ensures.value)

pub stages-init : goal.stages-init
unfolding pipe_at
stages-init c = (search rules, omega arith, onto_new stage_of _ _ c.new-found.ensures.items)
