use Rattle.std.{proofs.Common.{◌≡◌, Err, List, refl, sym, ap, ◌∙◌, subst, arith, rules}, proofs.lemmas.Result.err_from_is_err_and}
use Rattle.yq_nodes.{specs.Children.left_of, specs.Nodes.{label_of, node_of}}
use Rattle.yq_outline.specs.Counts.{count}
use Rattle.yq_semantics.{specs.Changes.{Changed, all_allowed}, specs.Judgement.{Judgement, MatchFails, and_then, gives}}
use Rattle.yq_semantics.{specs.PlacesApart.{AreIn, IsIn}, specs.Places.FoundPlace}
use Rattle.yq_planner.specs.Substitutes.{verdict}
use Rattle.yq_expr.{specs.JudgedChanges.effect_of, proofs.ChildPlaces.{nothing_before, first_child, child_more, child_fails, children_done}}
use Rattle.yq_expr.proofs.VerdictLaws.{after_given, after_fails, verdict_fails}
use Rattle.yq_eval.{specs.FoundView.place_at_path, specs.PlaceView.path_of, specs.TreeScalars.{HasScalars, HaveScalars}}
use Rattle.yq_eval.{proofs.EachLaws.failed, proofs.PlaceLaws.none_counted}
use Rattle.yq_expr.proofs.verdicts.judged_places.judge_children.Goals as goal

pub judge_place-requires : goal.judge_place-requires
judge_place-requires c =
    let p : FoundPlace = place_at_path (path_of c.args.parent.now.path) (node_of c.args.parent.now.node) in
    let first = first_child p c.children.before (left_of c.children.children) (left_of c.next.new.self) (label_of c.in-Some.child) (node_of c.in-Some.child) c.in-Some.ensures.steps in
    subst (λ (q : FoundPlace). HasScalars q.node) (sym (c.nth_below-place.ensures p refl)) (subst HaveScalars first c.children.invariant.scalars).0

pub returns-in_err-judge_place : goal.returns-in_err-judge_place
returns-in_err-judge_place c = λ root named within.
    let e = err_from_is_err_and c.from_residual.result c.from_residual.ensures.1 in
    let p : FoundPlace = place_at_path (path_of c.args.parent.now.path) (node_of c.args.parent.now.node) in
    let f : FoundPlace → Judgement (List Changed) = λ q. and_then (all_allowed root) (effect_of c.args.effect.now c.args.documents.now q) in
    let first = first_child p c.children.before (left_of c.children.children) (left_of c.next.new.self) (label_of c.in-Some.child) (node_of c.in-Some.child) c.in-Some.ensures.steps in
    let here = c.nth_below-place.ensures p refl in
    let before = c.children.invariant.so_far root named within in
    failed _ _ _ _ (e.1 ∙ ap Err e.2)
    (verdict_fails _ _
    (child_fails f p c.children.before (left_of c.children.children) (left_of c.next.new.self) (label_of c.in-Some.child) (node_of c.in-Some.child) before.0 _ _ c.in-Some.ensures.steps
    (after_fails before.0 _ _
    (subst (λ (q : FoundPlace). MatchFails c.in_err-judge_place.field-0.0 (verdict (f q))) here
    ((rw c.children.invariant.same at c.in_err-judge_place.ensures.verdict) root named (subst (IsIn root) (sym here) (subst (AreIn root) first (c.children.invariant.within root within)).0))))
    before.1))

pub children-preserved : goal.children-preserved
children-preserved c =
    let p : FoundPlace = place_at_path (path_of c.args.parent.now.path) (node_of c.args.parent.now.node) in
    let first = first_child p c.children.before (left_of c.children.children) (left_of c.next.new.self) (label_of c.in-Some.child) (node_of c.in-Some.child) c.in-Some.ensures.steps in
    let here = c.nth_below-place.ensures p refl in
    let counted = ap count c.in-Some.ensures.steps in
    record {
      same = c.judge_place.ensures.same ∙ c.children.invariant.same;
      counted = omega (arith, counted);
      scalars = (subst HaveScalars first c.children.invariant.scalars).1;
      within = λ root within. (subst (AreIn root) first (c.children.invariant.within root within)).1;
      so_far = λ root named within.
          let f : FoundPlace → Judgement (List Changed) = λ q. and_then (all_allowed root) (effect_of c.args.effect.now c.args.documents.now q) in
          let before = c.children.invariant.so_far root named within in
          let more = after_given before.0 _
          (subst (λ (q : FoundPlace). verdict (f q) ≡ gives tt) here
          ((rw c.children.invariant.same at c.in_ok-judge_place.ensures.verdict) root named (subst (IsIn root) (sym here) (subst (AreIn root) first (c.children.invariant.within root within)).0))) in
          (more.0, child_more f p c.children.before (left_of c.children.children) (left_of c.next.new.self) (label_of c.in-Some.child) (node_of c.in-Some.child) before.0 more.0 _ c.in-Some.ensures.steps more.1 before.1);
    }

pub returns : goal.returns
returns c = λ root named within.
    let f : FoundPlace → Judgement (List Changed) = λ q. and_then (all_allowed root) (effect_of c.args.effect.now c.args.documents.now q) in
    let p : FoundPlace = place_at_path (path_of c.args.parent.now.path) (node_of c.args.parent.now.node) in
    let so_far = c.children.invariant.so_far root named within in
    let none = none_counted (left_of c.children.children) (omega (arith, c.children.invariant.counted, c.children-test.false)) in
    ap verdict (children_done f p c.children.before (left_of c.children.children) so_far.0 _ none so_far.1)

pub overflow_add-before : goal.overflow_add-before
overflow_add-before c = omega (arith, c.children-test.true)

pub children-init : goal.children-init
children-init c = search (rules, nothing_before)

pub returns-in_default : goal.returns-in_default
returns-in_default c = search (rules, children_done, c.children.invariant.so_far)
