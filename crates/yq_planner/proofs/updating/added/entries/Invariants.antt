use Rattle.std.proofs.Common.{◌≡◌, drop, ◌++◌, map}
use Rattle.yq_core.{specs.Values.entries_of, specs.Tree.Children}
use Rattle.yq_semantics.specs.Changes.{additions}
use Rattle.yq_planner.{specs.ChangeView.addition_of, specs.Indexes.IsIndex}
use Rattle.yq_planner.proofs.updating.added.entries.Given as goal

abbrev pub invariant-each : goal.invariant-each
invariant-each l = (cs : Children) → IsIndex cs l.index → map addition_of l.additions.items ++ additions cs (entries_of (drop l.other-index l.other-items)) ≡ additions cs (entries_of l.other-items)
