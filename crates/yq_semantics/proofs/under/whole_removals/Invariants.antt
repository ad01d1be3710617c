use Rattle.std.proofs.Common.{◌≡◌, take}
use Rattle.yq_semantics.{specs.Operations.operations_of, specs.Under.ops_under}
use Rattle.yq_semantics.proofs.under.whole_removals.Given as goal

abbrev pub invariant-each : goal.invariant-each
invariant-each l = operations_of l.whole.items ≡ ops_under l.front (take l.op-index l.ops)
