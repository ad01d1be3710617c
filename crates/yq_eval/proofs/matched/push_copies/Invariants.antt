use Rattle.std.proofs.Common.{◌≡◌, drop}
use Rattle.yq_semantics.{specs.Copies.match_at, specs.Places.for_each}
use Rattle.yq_eval.{specs.MatchView.matches_of, specs.PlaceView.{places_of, put_after}, specs.TreeScalars.HaveScalars}
use Rattle.yq_eval.proofs.matched.push_copies.Given as goal

abbrev pub invariant-places : goal.invariant-places
invariant-places l = record {
  scalars : HaveScalars (places_of (drop l.place-index l.places));
  so_far : put_after (matches_of l.matches.items) (for_each (match_at l.doc) (places_of (drop l.place-index l.places))) ≡ put_after (matches_of l.initial.matches.items) (for_each (match_at l.doc) (places_of l.places));
}
