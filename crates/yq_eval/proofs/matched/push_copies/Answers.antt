use Rattle.std.{proofs.Common.{Err, ap, ◌∙◌, subst}, proofs.lemmas.Result.err_from_is_err_and}
use Rattle.yq_semantics.specs.Copies.{match_at}
use Rattle.yq_eval.{specs.MatchView.matches_of, specs.PlaceView.place_of, specs.TreeScalars.HaveScalars}
use Rattle.yq_eval.{proofs.EachLaws.{each_more, each_fails, failed, reached}, proofs.MatchLaws.value_has}
use Rattle.yq_eval.proofs.matched.push_copies.Goals as goal

pub push_match-requires : goal.push_match-requires
push_match-requires c =
    value_has (place_of c.place-item.result)
    (subst HaveScalars (reached place_of c.args.places.now c.places.place-index c.place-item.result c.places-test.true c.place-item.is) c.places.invariant.scalars).0

pub returns-in_err-push_match : goal.returns-in_err-push_match
returns-in_err-push_match c =
    let p = err_from_is_err_and c.from_residual.result c.from_residual.ensures.1 in
    failed _ _ _ _ (p.1 ∙ ap Err p.2)
    (each_fails place_of (match_at c.args.doc) (matches_of c.places.matches.items) c.args.places.now c.places.place-index c.place-item.result _ _ c.places-test.true c.place-item.is c.in_err-push_match.ensures c.places.invariant.so_far)

pub places-preserved : goal.places-preserved
places-preserved c = record {
  scalars = (subst HaveScalars (reached place_of c.args.places.now c.places.place-index c.place-item.result c.places-test.true c.place-item.is) c.places.invariant.scalars).1;
  so_far = each_more place_of (match_at c.args.doc) (matches_of c.places.matches.items) (matches_of c.push_match.new.matches.items) c.args.places.now
      c.places.place-index c.place-item.result _ c.places-test.true c.place-item.is c.in_ok-push_match.ensures c.places.invariant.so_far;
}
