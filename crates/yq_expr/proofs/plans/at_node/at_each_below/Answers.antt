use Rattle.std.{proofs.Common.{List, [], ◌∷◌, ◌++◌, map, ap, sym, ◌∙◌, subst, arith, ◌≤◌, length}, proofs.lemmas.Result.err_from_is_err_and}
use Rattle.yq_core.specs.Entries.{tree_step}
use Rattle.yq_semantics.{specs.Changes.{Changed, all_allowed}, specs.Judgement.{Judgement, and_then, gives}, specs.PlacesApart.AreIn}
use Rattle.yq_semantics.specs.Places.{FoundPlace}
use Rattle.yq_planner.specs.ChangeView.{changes_below}
use Rattle.yq_expr.specs.JudgedChanges.{effect_of}
use Rattle.yq_eval.{proofs.EachLaws.{each_all, each_more, each_fails, reached}, specs.PlaceView.{node_step_of, place_of}}
use Rattle.yq_eval.specs.TreeScalars.{HaveScalars}
use Rattle.yq_expr.proofs.plans.at_node.at_each_below.Goals as goal

pub push_below-requires-clause-scalars : goal.push_below-requires-clause-scalars
push_below-requires-clause-scalars c =
    let here = reached place_of c.args.places.now c.places.place-index c.place-item.result c.places-test.true c.place-item.is in
    (subst HaveScalars here c.places.invariant.scalars).0

pub push_below-requires-clause-path : goal.push_below-requires-clause-path
push_below-requires-clause-path c = c.in-Some.ensures ∙ ap (λ xs. map tree_step xs ++ node_step_of c.in-Some.step ∷ []) c.deref.ensures.value

pub returns-in_err-push_below-clause-changes : goal.returns-in_err-push_below-clause-changes
returns-in_err-push_below-clause-changes c = λ root named within.
    let p = err_from_is_err_and c.from_residual-in_err-push_below.result c.from_residual-in_err-push_below.ensures.1 in
    let here = reached place_of c.args.places.now c.places.place-index c.place-item.result c.places-test.true c.place-item.is in
    let f : FoundPlace → Judgement (List Changed) = λ q. and_then (all_allowed root) (effect_of c.args.effect.now c.args.documents.now q) in
    rw (p.1, p.2)
    (each_fails place_of f (changes_below (map tree_step c.args.front.items) c.places.so_far.changes.items) c.args.places.now c.places.place-index c.place-item.result _ _ c.places-test.true c.place-item.is
    ((rw (c.places.invariant.same, c.places.invariant.steps) at c.in_err-push_below.ensures.change) root named (subst (AreIn root) here (c.places.invariant.within root within)).0)
    (c.places.invariant.so_far root named within))

pub places-preserved : goal.places-preserved
places-preserved c =
    let here = reached place_of c.args.places.now c.places.place-index c.place-item.result c.places-test.true c.place-item.is in
    record {
      same = c.in_ok-push_below.ensures.stays.0 ∙ c.places.invariant.same;
      doc = c.in_ok-push_below.ensures.stays.1.0 ∙ c.places.invariant.doc;
      steps = c.in_ok-push_below.ensures.stays.1.1 ∙ c.places.invariant.steps;
      valid = c.in_ok-push_below.ensures.valid c.places.invariant.valid;
      scalars = (subst HaveScalars here c.places.invariant.scalars).1;
      within = λ root within. (subst (AreIn root) here (c.places.invariant.within root within)).1;
      so_far = λ root named within.
          let f : FoundPlace → Judgement (List Changed) = λ q. and_then (all_allowed root) (effect_of c.args.effect.now c.args.documents.now q) in
          each_more place_of f (changes_below (map tree_step c.args.front.items) c.places.so_far.changes.items)
          (changes_below (map tree_step c.args.front.items) c.push_below.new.so_far.changes.items) c.args.places.now c.places.place-index
          c.place-item.result _ c.places-test.true c.place-item.is
          ((rw (c.places.invariant.same, c.places.invariant.steps) at c.in_ok-push_below.ensures.change) root named (subst (AreIn root) here (c.places.invariant.within root within)).0)
          (c.places.invariant.so_far root named within);
    }

pub returns-clause-changes : goal.returns-clause-changes
returns-clause-changes c = λ root named within.
    let f : FoundPlace → Judgement (List Changed) = λ q. and_then (all_allowed root) (effect_of c.args.effect.now c.args.documents.now q) in
    let past : length c.args.places.now ≤ c.places.place-index = omega (arith, c.places-test.false) in
    each_all place_of f (changes_below (map tree_step c.args.front.items) c.places.so_far.changes.items) c.args.places.now c.places.place-index _ past (c.places.invariant.so_far root named within)
    ∙ ap gives (sym (c.ended.ensures.changes ∙ ap (λ xs. changes_below xs c.places.so_far.changes.items) c.places.invariant.steps))
