use Rattle.std.{proofs.Common.{rules, arith, sym}, specs.Prelude.codes, proofs.lemmas.Result.err_from_is_err_and}
use Rattle.yq_expr_parser.proofs.LoopSteps.{failed, onto_new, parted_more, parted_end, parted_fails, term_lessens}
use Rattle.yq_expr_parser.specs.Parse.{term_at, right_at}
use Rattle.yq_semantics.{specs.Grammar.literal_depth, specs.View.term_of}
use Rattle.yq_expr_parser.proofs.parse.update.right.Goals as goal

pub returns-in_err-term-clause-value : goal.returns-in_err-term-clause-value
returns-in_err-term-clause-value c =
    failed _ c.from_residual.result _ _ (err_from_is_err_and c.from_residual.result c.from_residual.ensures.1)
    (parted_fails (codes "+") (term_at literal_depth) _ _ _ c.terms.invariant.2 _ c.in_err-term.ensures.value)

pub terms-preserved : goal.terms-preserved
terms-preserved c = (
  search rules,
  omega (arith, c.in_ok-term.ensures.shorter, c.in-Some.ensures.shorter, c.terms.invariant.1),
  parted_more term_of (codes "+") (term_at literal_depth) term_lessens _ _ _ c.terms.invariant.2 _ _ c.in_ok-term.ensures.value _ c.in_ok-push.ensures.items _ (sym c.in-Some.ensures.value),
)

pub returns-in-None-clause-value : goal.returns-in-None-clause-value
returns-in-None-clause-value c = parted_end term_of (codes "+") (term_at literal_depth) term_lessens _ _ _ c.terms.invariant.2 _ _ c.in_ok-term.ensures.value _ c.in_ok-push.ensures.items (sym c.in-None.ensures.value)

pub terms-init : goal.terms-init
unfolding right_at
terms-init c = (search rules, omega arith, onto_new term_of _ _ c.new-found.ensures.items)
