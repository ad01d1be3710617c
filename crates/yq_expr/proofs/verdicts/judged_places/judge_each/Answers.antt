use Rattle.std.{proofs.Common.{Err, List, ap, ◌∙◌, subst, rules}, proofs.lemmas.Result.err_from_is_err_and}
use Rattle.yq_semantics.{specs.Changes.{Changed, all_allowed}, specs.Judgement.{Judgement, and_then}, specs.PlacesApart.AreIn}
use Rattle.yq_semantics.specs.Places.{FoundPlace}
use Rattle.yq_expr.{specs.JudgedChanges.effect_of, proofs.ChildPlaces.nothing_before}
use Rattle.yq_expr.proofs.VerdictLaws.{after_given, after_fails, verdict_fails}
use Rattle.yq_eval.{proofs.EachLaws.{each_all, each_more, each_fails, failed, reached}, specs.PlaceView.place_of}
use Rattle.yq_eval.specs.TreeScalars.{HaveScalars}
use Rattle.yq_expr.proofs.verdicts.judged_places.judge_each.Goals as goal

pub places-init : goal.places-init
places-init c = search (rules, nothing_before)

pub returns-in_err-judge_place : goal.returns-in_err-judge_place
returns-in_err-judge_place c = λ root named within.
    let p = err_from_is_err_and c.from_residual.result c.from_residual.ensures.1 in
    let here = reached place_of c.args.places.now c.places.place-index c.place-item.result c.places-test.true c.place-item.is in
    let f : FoundPlace → Judgement (List Changed) = λ q. and_then (all_allowed root) (effect_of c.args.effect.now c.args.documents.now q) in
    let before = c.places.invariant.so_far root named within in
    failed _ _ _ _ (p.1 ∙ ap Err p.2)
    (verdict_fails _ _
    (each_fails place_of f before.0 c.args.places.now c.places.place-index c.place-item.result _ _ c.places-test.true c.place-item.is
    (after_fails before.0 (f (place_of c.place-item.result)) _
    ((rw c.places.invariant.same at c.in_err-judge_place.ensures.verdict) root named (subst (AreIn root) here (c.places.invariant.within root within)).0))
    before.1))

pub places-preserved : goal.places-preserved
places-preserved c =
    let here = reached place_of c.args.places.now c.places.place-index c.place-item.result c.places-test.true c.place-item.is in
    record {
      same = c.judge_place.ensures.same ∙ c.places.invariant.same;
      scalars = (subst HaveScalars here c.places.invariant.scalars).1;
      within = λ root within. (subst (AreIn root) here (c.places.invariant.within root within)).1;
      so_far = λ root named within.
          let f : FoundPlace → Judgement (List Changed) = λ q. and_then (all_allowed root) (effect_of c.args.effect.now c.args.documents.now q) in
          let before = c.places.invariant.so_far root named within in
          let more = after_given before.0 (f (place_of c.place-item.result))
          ((rw c.places.invariant.same at c.in_ok-judge_place.ensures.verdict) root named (subst (AreIn root) here (c.places.invariant.within root within)).0) in
          (more.0, each_more place_of f before.0 more.0 c.args.places.now c.places.place-index c.place-item.result _ c.places-test.true c.place-item.is more.1 before.1);
    }

pub returns : goal.returns
returns c = search (rules, each_all, c.places.invariant.so_far)
