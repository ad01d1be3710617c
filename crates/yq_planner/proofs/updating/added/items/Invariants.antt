use Rattle.std.proofs.Common.{◌≡◌, drop, ◌++◌, map}
use Rattle.yq_core.{specs.Values.items_of, specs.Tree.none}
use Rattle.yq_semantics.specs.Changes.{additions}
use Rattle.yq_planner.specs.ChangeView.{addition_of}
use Rattle.yq_planner.proofs.updating.added.items.Given as goal

abbrev pub invariant-values : goal.invariant-values
invariant-values l = map addition_of l.additions.items ++ additions none (items_of (drop l.value-index l.value-items)) ≡ additions none (items_of l.value-items)
