use Rattle.std.{proofs.Common.{Err, List, map, ap, sym, ◌∙◌, subst, arith, ◌≤◌, length}, proofs.lemmas.Result.err_from_is_err_and}
use Rattle.yq_semantics.{specs.Changes.{Changed, all_allowed}, specs.Judgement.{Judgement, and_then, gives}, specs.PlacesApart.AreIn}
use Rattle.yq_semantics.specs.Places.{FoundPlace}
use Rattle.yq_planner.specs.ChangeView.{changed_of}
use Rattle.yq_expr.specs.JudgedChanges.{effect_of}
use Rattle.yq_eval.{proofs.EachLaws.{each_all, each_more, each_fails, failed, reached}, specs.PlaceView.place_of}
use Rattle.yq_eval.specs.TreeScalars.{HaveScalars}
use Rattle.yq_expr.proofs.plans.at_places.at_each.Goals as goal

pub returns-in_err-at_place-clause-changes : goal.returns-in_err-at_place-clause-changes
returns-in_err-at_place-clause-changes c = λ root named within.
    let p = err_from_is_err_and c.from_residual-in_err-at_place.result c.from_residual-in_err-at_place.ensures.1 in
    let here = reached place_of c.args.places.now c.places.place-index c.place-item.result c.places-test.true c.place-item.is in
    let f : FoundPlace → Judgement (List Changed) = λ q. and_then (all_allowed root) (effect_of c.args.effect.now c.args.documents.now q) in
    failed _ _ _ _ (p.1 ∙ ap Err p.2)
    (each_fails place_of f (map changed_of c.places.changes.items) c.args.places.now c.places.place-index c.place-item.result _ _ c.places-test.true c.place-item.is
    ((rw (c.places.invariant.same, ← c.in_err-at_place.ensures) at c.push_effect-pushed.ensures.change) root named (subst (AreIn root) here (c.places.invariant.within root within)).0)
    (c.places.invariant.so_far root named within))

pub places-preserved : goal.places-preserved
places-preserved c =
    let here = reached place_of c.args.places.now c.places.place-index c.place-item.result c.places-test.true c.place-item.is in
    record {
      same = c.push_effect-pushed.ensures.same ∙ c.places.invariant.same;
      scalars = (subst HaveScalars here c.places.invariant.scalars).1;
      within = λ root within. (subst (AreIn root) here (c.places.invariant.within root within)).1;
      valid = (rw (← c.in_ok-at_place.ensures) at c.push_effect-pushed.ensures.valid) c.places.invariant.valid;
      so_far = λ root named within.
          let f : FoundPlace → Judgement (List Changed) = λ q. and_then (all_allowed root) (effect_of c.args.effect.now c.args.documents.now q) in
          each_more place_of f (map changed_of c.places.changes.items) (map changed_of c.push_effect-pushed.new.changes.items) c.args.places.now c.places.place-index c.place-item.result _ c.places-test.true c.place-item.is
          ((rw (c.places.invariant.same, ← c.in_ok-at_place.ensures) at c.push_effect-pushed.ensures.change) root named (subst (AreIn root) here (c.places.invariant.within root within)).0)
          (c.places.invariant.so_far root named within);
    }

pub returns-clause-changes : goal.returns-clause-changes
returns-clause-changes c = λ root named within.
    let f : FoundPlace → Judgement (List Changed) = λ q. and_then (all_allowed root) (effect_of c.args.effect.now c.args.documents.now q) in
    let past : length c.args.places.now ≤ c.places.place-index = omega (arith, c.places-test.false) in
    each_all place_of f (map changed_of c.places.changes.items) c.args.places.now c.places.place-index _ past (c.places.invariant.so_far root named within)
    ∙ ap gives (sym c.of_root.ensures.changes)
