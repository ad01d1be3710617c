use Rattle.std.{proofs.Common.{sym, subst}, proofs.lemmas.Result.IfOk-weaker}
use Rattle.yq_planner.{specs.ChangeView.{addition_of, change_of}, specs.ValidChanges.{AddsValid, AreAddedValid, IsValidChange}}
use Rattle.yq_planner.{specs.declared.updating.change.Change.Change, proofs.ValidLaws.seen_each}
use Rattle.yq_planner.proofs.updating.change_limits.is_too_long.Goals as goal

pub returns-in-Adds-clause-valid : goal.returns-in-Adds-clause-valid
returns-in-Adds-clause-valid c =
    IfOk-weaker c.some_writes_long_key.result _ _ (λ b h short. subst (λ (x : Change). IsValidChange (change_of x)) (sym c.in-Adds.is)
    (seen_each AddsValid addition_of c.in-Adds.additions.items (subst AreAddedValid c.deref.ensures.value (h short)))) c.some_writes_long_key.ensures.valid
