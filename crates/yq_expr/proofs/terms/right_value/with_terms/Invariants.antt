use Rattle.std.proofs.Common.{◌≡◌, ◌≤◌, length, map}
use Rattle.yq_core.specs.Values.{value_node}
use Rattle.yq_semantics.{specs.RightValues.sum_from, specs.View.term_of}
use Rattle.yq_eval.specs.PlaceView.{place_of}
use Rattle.yq_expr.proofs.terms.right_value.with_terms.Given as goal

abbrev pub invariant-terms : goal.invariant-terms
invariant-terms l = record {
  short : length l.rest ≤ length l.terms;
  so_far : sum_from l.doc (place_of l.place) (value_node l.total) (map term_of l.rest) ≡ sum_from l.doc (place_of l.place) (value_node l.fn.first) (map term_of l.terms);
}

abbrev pub decreases-terms : goal.decreases-terms
decreases-terms l = length l.rest
