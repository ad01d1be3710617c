use Rattle.std.proofs.Common.{◌≡◌, ◌+◌, ◌*◌, ◌++◌, ◌&&◌, drop, map}
use Rattle.yq_core.{specs.Keys.{keys_of, are_distinct}, specs.Trees.parts_tree, specs.View.{entries_end, items_end}}
use Rattle.yq_outline.specs.Sound.{are_sound}
use Rattle.yq_compose.proofs.inline_fault.+nested.Given as goal

abbrev pub decreases-node_fault : goal.decreases-node_fault
decreases-node_fault l = 2 * l.depth

abbrev pub decreases-items_fault : goal.decreases-items_fault
decreases-items_fault l = 2 * l.depth + 1

abbrev pub decreases-entries_fault : goal.decreases-entries_fault
decreases-entries_fault l = 2 * l.depth + 1

abbrev pub invariant-items_fault-each : goal.invariant-items_fault-each
invariant-items_fault-each l = are_sound l.fn.depth (parts_tree (items_end l.fn.items.items)) ≡ are_sound l.fn.depth (parts_tree (items_end (drop l.item-index l.item-items)))

abbrev pub invariant-entries_fault-each : goal.invariant-entries_fault-each
invariant-entries_fault-each l =
    (are_sound l.fn.depth (parts_tree (entries_end l.fn.entries.items)) && are_distinct (keys_of (parts_tree (entries_end l.fn.entries.items))))
    ≡ (are_sound l.fn.depth (parts_tree (entries_end (drop l.entry-index l.entry-items))) && are_distinct (map (λ k. k.now) l.keys.items ++ keys_of (parts_tree (entries_end (drop l.entry-index l.entry-items)))))
