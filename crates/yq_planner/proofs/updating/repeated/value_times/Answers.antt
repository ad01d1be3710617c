use Rattle.std.{proofs.Common.{Err, ◌≡◌, ap, sym, ◌∙◌, arith, subst}, proofs.lemmas.Result.err_from_is_err_and}
use Rattle.yq_core.specs.Values.{value_node}
use Rattle.yq_semantics.{specs.Judgement.{MatchFails, gives}, specs.RightValues.sum}
use Rattle.yq_planner.proofs.SumLaws.{failed, settled, time_fails, time_more, times_done}
use Rattle.yq_planner.proofs.updating.repeated.value_times.Goals as goal

pub returns-then-branch : goal.returns-then-branch
returns-then-branch c =
    sym c.times.invariant.so_far ∙ settled c.times.left (value_node c.args.value.now) (value_node c.times.total) (c.in_ok-holds_already.ensures c.if-branch.true)

pub returns-in_err-total : goal.returns-in_err-total
returns-in_err-total c =
    let p = err_from_is_err_and c.from_residual-in_err-total.result c.from_residual-in_err-total.ensures.1 in
    let fails = subst (λ v. MatchFails c.in_err-total.field-0.0 (sum (value_node c.times.total) v)) c.in_ok-copied.ensures c.in_err-total.ensures in
    failed _ _ _ _ (p.1 ∙ ap Err p.2) (time_fails c.times.left (value_node c.args.value.now) (value_node c.times.total) _ _ (omega (arith, c.times-test.true)) fails c.times.invariant.so_far)

pub times-preserved : goal.times-preserved
times-preserved c =
    let more = subst (λ v. sum (value_node c.times.total) v ≡ gives (value_node c.in_ok-total.total)) c.in_ok-copied.ensures c.in_ok-total.ensures in
    record { so_far = time_more c.times.left (value_node c.args.value.now) (value_node c.times.total) (value_node c.in_ok-total.total) _ (omega (arith, c.times-test.true)) more c.times.invariant.so_far }

pub returns : goal.returns
returns c = times_done c.times.left (value_node c.args.value.now) (value_node c.times.total) _ (omega (arith, c.times-test.false)) c.times.invariant.so_far
