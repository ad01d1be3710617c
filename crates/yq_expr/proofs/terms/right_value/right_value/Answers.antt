use Rattle.std.proofs.Common.{sym, subst, arith}
use Rattle.yq_core.specs.Values.{value_node}
use Rattle.yq_semantics.{specs.Judgement.Judges, specs.View.term_of}
use Rattle.yq_eval.specs.PlaceView.{place_of}
use Rattle.yq_planner.proofs.SumLaws.{right_on}
use Rattle.yq_expr.proofs.terms.right_value.right_value.Goals as goal

pub returns : goal.returns
returns c =
    rw c.at_last.ensures
    (subst (Judges value_node c.with_terms-sum.result)
    (sym (right_on term_of c.args.doc (place_of c.args.place.now) c.args.terms.now c.term-item.result (value_node c.in_ok-first.first) (omega (arith, c.in-len1-up.len_at_least)) c.term-item.is c.in_ok-first.ensures))
    c.with_terms-sum.ensures)
