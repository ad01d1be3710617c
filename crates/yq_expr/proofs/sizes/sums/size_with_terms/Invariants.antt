use Rattle.std.proofs.Common.{◌≡◌, map, drop}
use Rattle.yq_core.specs.Tree.{Node}
use Rattle.yq_semantics.{specs.Judgement.gives, specs.RightValues.{sum_from, term_value}, specs.View.term_of}
use Rattle.yq_eval.specs.PlaceView.{place_of}
use Rattle.yq_expr.specs.SumSizes.{AddsSized, GivesSized}
use Rattle.yq_expr.proofs.sizes.sums.size_with_terms.Given as goal

abbrev pub invariant-terms : goal.invariant-terms
invariant-terms l = record {
  adds : AddsSized (term_value l.doc (place_of l.place) (term_of l.sum.last.now)) l.sum.added;
  so_far : (v : Node) → GivesSized (gives v) l.fn.first.1 → (w : Node) × GivesSized (gives w) l.sum.total ×
      (sum_from l.doc (place_of l.place) w (map term_of (drop l.term-index l.terms)) ≡ sum_from l.doc (place_of l.place) v (map term_of l.terms));
}
