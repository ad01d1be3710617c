use Rattle.std.{proofs.Common.{◌≡◌, drop, suc}, specs.List.list_any}
use Rattle.yq_semantics.specs.Changes.{is_deep, value_in}
use Rattle.yq_planner.specs.ChangeView.{addition_of}
use Rattle.yq_planner.proofs.updating.change_limits.some_adds_too_deep.Given as goal

abbrev pub invariant-each : goal.invariant-each
invariant-each l = list_any (λ a. is_deep (suc l.outer) (value_in (addition_of a))) (drop l.addition-index l.additions) ≡ list_any (λ a. is_deep (suc l.outer) (value_in (addition_of a))) l.additions
