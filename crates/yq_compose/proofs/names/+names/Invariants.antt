use Rattle.std.proofs.Common.{◌≡◌, ◌+◌, ◌*◌, ◌++◌, drop}
use Rattle.yq_core.{specs.Trees.parts_tree, specs.View.{inline_view, items_end, entries_end}, specs.Anchors.names_in}
use Rattle.yq_compose.specs.Named.{all_named}
use Rattle.yq_outline.proofs.SizeLaws.{node_size, parts_size}
use Rattle.yq_compose.proofs.names.+names.Given as goal

abbrev pub decreases-push_node : goal.decreases-push_node
decreases-push_node l = 2 * node_size (inline_view l.node.now)

abbrev pub decreases-push_items : goal.decreases-push_items
decreases-push_items l = 2 * parts_size (items_end l.items.now.items) + 1

abbrev pub decreases-push_entries : goal.decreases-push_entries
decreases-push_entries l = 2 * parts_size (entries_end l.entries.now.items) + 1

abbrev pub invariant-push_items-each : goal.invariant-push_items-each
invariant-push_items-each l = all_named l.names.items ++ names_in (parts_tree (items_end (drop l.item-index l.item-items))) ≡ all_named l.fn.names.items ++ names_in (parts_tree (items_end l.item-items))

abbrev pub invariant-push_entries-each : goal.invariant-push_entries-each
invariant-push_entries-each l = all_named l.names.items ++ names_in (parts_tree (entries_end (drop l.entry-index l.entry-items))) ≡ all_named l.fn.names.items ++ names_in (parts_tree (entries_end l.entry-items))
