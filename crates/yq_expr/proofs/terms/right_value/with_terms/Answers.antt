use Rattle.std.{proofs.Common.{Err, List, ap, ◌∙◌, ◌-◌, drop, length, map, refl, take}, proofs.lemmas.Result.err_from_is_err_and}
use Rattle.std.proofs.lemmas.List.{take_rest}
use Rattle.yq_core.specs.Values.{value_node}
use Rattle.yq_semantics.{specs.RightValues.sum_from, specs.View.term_of, specs.declared.program.Term.Term}
use Rattle.yq_eval.{specs.PlaceView.place_of, proofs.EachLaws.failed}
use Rattle.yq_expr.proofs.TermLaws.{fewer, terms_done, terms_fail, terms_more}
use Rattle.yq_expr.proofs.terms.right_value.with_terms.Goals as goal

pub terms-preserved : goal.terms-preserved
terms-preserved c =
    let after : List Term = take (length c.terms.rest.now - 1) (drop 1 c.terms.rest.now) in
    record {
      short = fewer c.terms.rest.now c.count_same-again.result _ c.terms.invariant.short;
      so_far = ap (λ (ts : List Term). sum_from c.args.doc (place_of c.args.place.now) (value_node c.in_ok-total.total) (map term_of ts)) (take_rest after c.count_same-again.result)
          ∙ terms_more term_of c.args.doc (place_of c.args.place.now) c.terms.rest.now c.term-item.result after c.count_same-again.result (value_node c.terms.total) (value_node c.in_ok-total.total) _
          c.in-len1-up.len_at_least c.term-item.is refl c.count_same-again.ensures.same c.in_ok-total.ensures c.terms.invariant.so_far;
    }

pub returns-in_err-total : goal.returns-in_err-total
returns-in_err-total c =
    let p = err_from_is_err_and c.from_residual.result c.from_residual.ensures.1 in
    failed _ _ _ _ (p.1 ∙ ap Err p.2)
    (terms_fail term_of c.args.doc (place_of c.args.place.now) c.terms.rest.now c.term-item.result _ c.count_same-again.result (value_node c.terms.total) _ _
    c.in-len1-up.len_at_least c.term-item.is refl c.count_same-again.ensures.same c.in_err-total.ensures c.terms.invariant.so_far)

pub returns : goal.returns
returns c = terms_done term_of c.args.doc (place_of c.args.place.now) c.terms.rest.now (value_node c.terms.total) _ c.in_default.len_below c.terms.invariant.so_far
