use Rattle.std.proofs.Common.{◌≡◌, drop, nat_lt}
use Rattle.yq_core.{specs.Values.{entries_of, items_of}, specs.Keys.deepest}
use Rattle.yq_planner.proofs.updating.limits.+deeper.Given as goal

abbrev pub invariant-some_item_is_deeper-each : goal.invariant-some_item_is_deeper-each
invariant-some_item_is_deeper-each l = nat_lt l.limit (deepest (items_of (drop l.item-index l.item-items))) ≡ nat_lt l.limit (deepest (items_of l.item-items))

abbrev pub invariant-some_value_is_deeper-each : goal.invariant-some_value_is_deeper-each
invariant-some_value_is_deeper-each l = nat_lt l.limit (deepest (entries_of (drop l.entry-index l.entry-items))) ≡ nat_lt l.limit (deepest (entries_of l.entry-items))
