use Rattle.std.{proofs.Common.{◌≡◌, ◌+◌, ◌*◌, drop}, specs.List.list_any}
use Rattle.yq_core.{specs.Trees.parts_tree, specs.View.{inline_view, items_end, entries_end}, specs.Anchors.names_in}
use Rattle.yq_outline.{specs.Names.is_reference, proofs.SizeLaws.{node_size, parts_size}}
use Rattle.yq_documents.proofs.references.+refers.Given as goal

abbrev pub decreases-node_refers : goal.decreases-node_refers
decreases-node_refers l = 2 * node_size (inline_view l.node.now)

abbrev pub decreases-items_refer : goal.decreases-items_refer
decreases-items_refer l = 2 * parts_size (items_end l.items.now.items) + 1

abbrev pub decreases-entries_refer : goal.decreases-entries_refer
decreases-entries_refer l = 2 * parts_size (entries_end l.entries.now.items) + 1

abbrev pub invariant-items_refer-each : goal.invariant-items_refer-each
invariant-items_refer-each l = list_any is_reference (names_in (parts_tree (items_end (drop l.item-index l.item-items)))) ≡ list_any is_reference (names_in (parts_tree (items_end l.item-items)))

abbrev pub invariant-entries_refer-each : goal.invariant-entries_refer-each
invariant-entries_refer-each l = list_any is_reference (names_in (parts_tree (entries_end (drop l.entry-index l.entry-items)))) ≡ list_any is_reference (names_in (parts_tree (entries_end l.entry-items)))
