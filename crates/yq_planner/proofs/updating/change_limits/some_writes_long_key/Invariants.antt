use Rattle.std.{proofs.Common.{◌≡◌, drop}, specs.List.list_any}
use Rattle.yq_semantics.specs.Changes.{writes_long_key}
use Rattle.yq_planner.{specs.ChangeView.addition_of, specs.ValidChanges.AreAddedValid}
use Rattle.yq_planner.proofs.updating.change_limits.some_writes_long_key.Given as goal

abbrev pub invariant-each : goal.invariant-each
invariant-each l = record {
  so_far : list_any (λ a. writes_long_key (addition_of a)) (drop l.addition-index l.additions) ≡ list_any (λ a. writes_long_key (addition_of a)) l.additions;
  valid : AreAddedValid (drop l.addition-index l.additions) → AreAddedValid l.additions;
}
