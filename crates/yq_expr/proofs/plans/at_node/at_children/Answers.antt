use Rattle.std.proofs.Common.{◌≡◌, ◌++◌, ◌∷◌, [], Err, List, refl, sym, ap, ◌∙◌, subst, arith, rules}
use Rattle.std.proofs.lemmas.Result.{err_from_is_err_and}
use Rattle.yq_nodes.{specs.Children.left_of, specs.Nodes.{label_of, node_of}}
use Rattle.yq_outline.specs.Counts.{count}
use Rattle.yq_semantics.{specs.Changes.{Changed, all_allowed}, specs.Judgement.{MatchFails, Judgement, and_then, gives}}
use Rattle.yq_semantics.{specs.PlacesApart.{AreIn, IsIn}, specs.Places.FoundPlace}
use Rattle.yq_expr.{specs.JudgedChanges.effect_of, proofs.ChildPlaces.{nothing_before, first_child, child_more, child_fails, children_done}}
use Rattle.yq_planner.specs.ChangeView.{changes_below}
use Rattle.yq_eval.{specs.FoundView.place_at_path, specs.PlaceView.{path_of, put_after}, specs.TreeScalars.{HasScalars, HaveScalars}}
use Rattle.yq_eval.{proofs.EachLaws.failed, proofs.PlaceLaws.none_counted}
use Rattle.yq_expr.proofs.plans.at_node.at_children.Goals as goal

pub push_below-requires-clause-scalars : goal.push_below-requires-clause-scalars
push_below-requires-clause-scalars c =
    let p : FoundPlace = place_at_path (path_of c.args.parent.now.path) (node_of c.args.parent.now.node) in
    let first = first_child p c.children.before (left_of c.children.children) (left_of c.next.new.self) (label_of c.in-Some.child) (node_of c.in-Some.child) c.in-Some.ensures.steps in
    subst (λ (q : FoundPlace). HasScalars q.node) (sym (c.nth_below-place.ensures p refl)) (subst HaveScalars first c.children.invariant.scalars).0

pub push_below-requires-clause-path : goal.push_below-requires-clause-path
push_below-requires-clause-path c =
    let p : FoundPlace = place_at_path (path_of c.args.parent.now.path) (node_of c.args.parent.now.node) in
    let here = ap (λ (q : FoundPlace). q.path) (c.nth_below-place.ensures p refl) in
    here ∙ λ i. sym c.children.invariant.steps i ++ sym c.step_to-step.ensures i ∷ []

pub returns-in_err-push_below-clause-changes : goal.returns-in_err-push_below-clause-changes
returns-in_err-push_below-clause-changes c = λ root named within.
    let e = err_from_is_err_and c.from_residual-in_err-push_below.result c.from_residual-in_err-push_below.ensures.1 in
    let p : FoundPlace = place_at_path (path_of c.args.parent.now.path) (node_of c.args.parent.now.node) in
    let f : FoundPlace → Judgement (List Changed) = λ q. and_then (all_allowed root) (effect_of c.args.effect.now c.args.documents.now q) in
    let first = first_child p c.children.before (left_of c.children.children) (left_of c.next.new.self) (label_of c.in-Some.child) (node_of c.in-Some.child) c.in-Some.ensures.steps in
    let here = c.nth_below-place.ensures p refl in
    failed _ _ _ _ (e.1 ∙ ap Err e.2)
    (child_fails f p c.children.before (left_of c.children.children) (left_of c.next.new.self) (label_of c.in-Some.child) (node_of c.in-Some.child)
    (changes_below (path_of c.args.parent.now.path) c.children.so_far.changes.items) _ _ c.in-Some.ensures.steps
    (subst (λ (q : FoundPlace). MatchFails c.in_err-push_below.field-0.0 (put_after (changes_below (path_of c.args.parent.now.path) c.children.so_far.changes.items) (f q))) here
    ((rw (c.children.invariant.same, c.children.invariant.steps) at c.in_err-push_below.ensures.change) root named (subst (IsIn root) (sym here) (subst (AreIn root) first (c.children.invariant.within root within)).0)))
    (c.children.invariant.so_far root named within))

pub children-preserved : goal.children-preserved
children-preserved c =
    let p : FoundPlace = place_at_path (path_of c.args.parent.now.path) (node_of c.args.parent.now.node) in
    let first = first_child p c.children.before (left_of c.children.children) (left_of c.next.new.self) (label_of c.in-Some.child) (node_of c.in-Some.child) c.in-Some.ensures.steps in
    let here = c.nth_below-place.ensures p refl in
    let counted = ap count c.in-Some.ensures.steps in
    record {
      same = c.in_ok-push_below.ensures.stays.0 ∙ c.children.invariant.same;
      doc = c.in_ok-push_below.ensures.stays.1.0 ∙ c.children.invariant.doc;
      steps = c.in_ok-push_below.ensures.stays.1.1 ∙ c.children.invariant.steps;
      counted = omega (arith, counted);
      valid = c.in_ok-push_below.ensures.valid c.children.invariant.valid;
      scalars = (subst HaveScalars first c.children.invariant.scalars).1;
      within = λ root within. (subst (AreIn root) first (c.children.invariant.within root within)).1;
      so_far = λ root named within.
          let f : FoundPlace → Judgement (List Changed) = λ q. and_then (all_allowed root) (effect_of c.args.effect.now c.args.documents.now q) in
          child_more f p c.children.before (left_of c.children.children) (left_of c.next.new.self) (label_of c.in-Some.child)
          (node_of c.in-Some.child) (changes_below (path_of c.args.parent.now.path) c.children.so_far.changes.items) (changes_below (path_of c.args.parent.now.path) c.push_below.new.so_far.changes.items) _
          c.in-Some.ensures.steps
          (subst (λ (q : FoundPlace). put_after (changes_below (path_of c.args.parent.now.path) c.children.so_far.changes.items) (f q) ≡ gives (changes_below (path_of c.args.parent.now.path) c.push_below.new.so_far.changes.items)) here
          ((rw (c.children.invariant.same, c.children.invariant.steps) at c.in_ok-push_below.ensures.change) root named (subst (IsIn root) (sym here) (subst (AreIn root) first (c.children.invariant.within root within)).0)))
          (c.children.invariant.so_far root named within);
    }

pub returns-clause-changes : goal.returns-clause-changes
returns-clause-changes c = λ root named within.
    children_done (λ q. and_then (all_allowed root) (effect_of c.args.effect.now c.args.documents.now q)) (place_at_path (path_of c.args.parent.now.path) (node_of c.args.parent.now.node))
    c.children.before (left_of c.children.children) (changes_below (path_of c.args.parent.now.path) c.children.so_far.changes.items) _
    (none_counted (left_of c.children.children) (omega (arith, c.children.invariant.counted, c.children-test.false)))
    (c.children.invariant.so_far root named within)
    ∙ ap gives (sym (c.ended-2.ensures.changes ∙ ap (λ xs. changes_below xs c.children.so_far.changes.items) c.children.invariant.steps))

pub overflow_add-before : goal.overflow_add-before
overflow_add-before c = omega (arith, c.children-test.true)

pub children-init : goal.children-init
children-init c = search (rules, nothing_before)

pub returns-in_default-clause-changes : goal.returns-in_default-clause-changes
returns-in_default-clause-changes c = λ root named within.
    children_done (λ q. and_then (all_allowed root) (effect_of c.args.effect.now c.args.documents.now q)) (place_at_path (path_of c.args.parent.now.path) (node_of c.args.parent.now.node))
    c.children.before (left_of c.children.children) (changes_below (path_of c.args.parent.now.path) c.children.so_far.changes.items) _
    c.in_default.ensures.steps.0
    (c.children.invariant.so_far root named within)
    ∙ ap gives (sym (c.ended.ensures.changes ∙ ap (λ xs. changes_below xs c.children.so_far.changes.items) c.children.invariant.steps))
