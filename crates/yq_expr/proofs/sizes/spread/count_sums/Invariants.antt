use Rattle.std.proofs.Common.{ℕ, ◌+◌, drop, map}
use Rattle.yq_semantics.specs.View.{term_of}
use Rattle.yq_eval.{specs.PlaceView.places_of, specs.TreeScalars.HaveScalars}
use Rattle.yq_expr.specs.Oversized.{GiveItems}
use Rattle.yq_expr.proofs.sizes.spread.count_sums.Given as goal

abbrev pub invariant-places : goal.invariant-places
invariant-places l = record {
  scalars : HaveScalars (places_of (drop l.place-index l.places));
  given : GiveItems l.document.doc (map term_of l.right) (places_of l.places) l.count;
  so_far : (m : ℕ) → GiveItems l.document.doc (map term_of l.right) (places_of (drop l.place-index l.places)) m →
      GiveItems l.document.doc (map term_of l.right) (places_of l.places) (l.count + m);
}
