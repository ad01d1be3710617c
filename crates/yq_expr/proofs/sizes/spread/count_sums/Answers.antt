use Rattle.std.proofs.Common.{rules, ℕ, ◌+◌, List, drop, map, sym, subst, arith}
use Rattle.yq_eval.{specs.PlaceView.{place_of, places_of}, specs.TreeScalars.HaveScalars, proofs.EachLaws.reached}
use Rattle.yq_semantics.{specs.Program.Term, specs.RightValues.right_value, specs.View.term_of}
use Rattle.yq_expr.{specs.Oversized.GiveItems, specs.SumSizes.GivesSized}
use Rattle.yq_expr.proofs.OversizedLaws.{fewer_given, given_so_far, none_given, one_given}
use Rattle.yq_expr.proofs.sizes.spread.count_sums.Goals as goal

pub places-init : goal.places-init
places-init c = record {
  scalars = search rules;
  given = none_given c.args.document.now.doc (map term_of c.args.right.now) (places_of c.args.places.now);
  so_far = λ m h. fewer_given c.args.document.now.doc (map term_of c.args.right.now) (places_of c.args.places.now) m (0 + m) h (omega arith);
}

pub places-preserved : goal.places-preserved
places-preserved c =
    let doc : ℕ = c.args.document.now.doc in
    let right : List Term = map term_of c.args.right.now in
    let rest = places_of (drop (c.places.place-index + 1) c.args.places.now) in
    let step = reached place_of c.args.places.now c.places.place-index c.place-item.result c.places-test.true c.place-item.is in
    let sized : GivesSized (right_value doc right (place_of c.place-item.result)) c.in-Some.size = rw c.in-Some.is at c.in_ok-size.ensures in
    let so_far : (m : ℕ) → GiveItems doc right rest m → GiveItems doc right (places_of c.args.places.now) (c.saturating_add-count.result + m) =
    λ m h. fewer_given doc right (places_of c.args.places.now) (c.places.count + (c.items.result + m)) (c.saturating_add-count.result + m)
    (c.places.invariant.so_far (c.items.result + m) (subst (λ qs. GiveItems doc right qs (c.items.result + m)) (sym step)
    (one_given doc right (place_of c.place-item.result) rest c.in-Some.size c.items.result m c.items.ensures sized h)))
    (omega (arith, c.saturating_add-count.ensures)) in
    record {
      scalars = (subst HaveScalars step c.places.invariant.scalars).1;
      given = given_so_far doc right (places_of c.args.places.now) rest c.saturating_add-count.result so_far;
      so_far = so_far;
    }
