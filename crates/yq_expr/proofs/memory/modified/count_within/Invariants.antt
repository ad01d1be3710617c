use Rattle.std.proofs.Common.{◌≡◌, drop}
use Rattle.yq_eval.{specs.PlaceView.places_of, specs.TreeScalars.HaveScalars}
use Rattle.yq_expr.proofs.memory.modified.count_within.Given as goal

abbrev pub invariant-places : goal.invariant-places
invariant-places l = record {
  counted : l.count ≡ l.place-index;
  first : l.count ≡ 0 → l.left ≡ l.room;
  scalars : HaveScalars (places_of (drop l.place-index l.places));
}
