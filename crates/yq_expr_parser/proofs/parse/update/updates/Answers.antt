use Rattle.std.{proofs.Common.{rules, arith, sym}, specs.Prelude.codes, proofs.lemmas.Result.err_from_is_err_and}
use Rattle.yq_expr_parser.proofs.LoopSteps.{failed, onto_new, parted_more, parted_end, parted_fails, update_lessens}
use Rattle.yq_expr_parser.specs.Parse.{parse_update}
use Rattle.yq_semantics.{specs.Grammar.literal_depth, specs.View.update_of}
use Rattle.yq_expr_parser.proofs.parse.update.updates.Goals as goal

pub returns-in_err-update-clause-value : goal.returns-in_err-update-clause-value
returns-in_err-update-clause-value c =
    failed _ c.from_residual.result _ _ (err_from_is_err_and c.from_residual.result c.from_residual.ensures.1)
    (parted_fails (codes "|") (parse_update literal_depth) _ _ _ c.updates.invariant.2 _ c.in_err-update.ensures.value)

pub updates-preserved : goal.updates-preserved
updates-preserved c = (
  search rules,
  omega (arith, c.in_ok-update.ensures.shorter, c.in-Some.ensures.shorter, c.updates.invariant.1),
  parted_more update_of (codes "|") (parse_update literal_depth) update_lessens _ _ _ c.updates.invariant.2 _ _ c.in_ok-update.ensures.value _ c.in_ok-push.ensures.items _ (sym c.in-Some.ensures.value),
)

pub returns-in-None-clause-value : goal.returns-in-None-clause-value
returns-in-None-clause-value c = parted_end update_of (codes "|") (parse_update literal_depth) update_lessens _ _ _ c.updates.invariant.2 _ _ c.in_ok-update.ensures.value _ c.in_ok-push.ensures.items (sym c.in-None.ensures.value)

pub updates-init : goal.updates-init
updates-init c = (search rules, omega arith, onto_new update_of _ _ c.new-found.ensures.items)
