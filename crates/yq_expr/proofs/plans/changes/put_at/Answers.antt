use Rattle.std.{proofs.Common.{Err, [], map, ap, ◌∙◌, sym, subst}, proofs.lemmas.Result.err_from_is_err_and}
use Rattle.yq_core.specs.Values.{value_node}
use Rattle.yq_planner.specs.ChangeView.{changed_of, placed}
use Rattle.yq_semantics.{specs.Changes.{all_allowed, put_with_path}, specs.Judgement.{MatchFails, and_then, gives}, specs.Rooms.room_of}
use Rattle.yq_eval.{specs.PlaceView.{place_of, put_after}, proofs.EachLaws.{failed, fails_then}}
use Rattle.yq_expr.proofs.AllChanges.{only_fails}
use Rattle.yq_expr.proofs.plans.changes.put_at.Goals as goal

pub returns-in_err-check_depth-clause-changes : goal.returns-in_err-check_depth-clause-changes
returns-in_err-check_depth-clause-changes c = λ root named within.
    let p = err_from_is_err_and c.from_residual.result c.from_residual.ensures.1 in
    failed _ _ _ _ (p.1 ∙ ap Err p.2) (fails_then _ _ _ (c.in_err-check_depth.ensures root (room_of [] 0)))

pub returns-in_err-push_change-clause-changes : goal.returns-in_err-push_change-clause-changes
returns-in_err-push_change-clause-changes c = λ root named within.
    let p = err_from_is_err_and c.from_residual-in_err-push_change.result c.from_residual-in_err-push_change.ensures.1 in
    let put = c.in_ok-change.ensures ∙ ap (λ o. gives (placed (place_of c.args.place.now) o)) c.in-Some.is in
    failed _ _ _ _ (p.1 ∙ ap Err p.2)
    (only_fails (map changed_of c.in_ok-changes.changes.items) (and_then (all_allowed root) (put_with_path (place_of c.args.place.now) (value_node c.args.value))) c.in_err-push_change.field-0.0
    (subst (λ j. MatchFails c.in_err-push_change.field-0.0 (put_after (map changed_of c.in_ok-changes.changes.items) (and_then (all_allowed root) j))) (sym put)
    (c.in_err-push_change.ensures.change root named within.0)))
