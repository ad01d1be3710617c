use Rattle.std.proofs.Common.{arith, ap}
use Rattle.yq_core.specs.View.{entries_end, items_end}
use Rattle.yq_outline.proofs.SizeLaws.{entry_size, item_size, parts_size}
use Rattle.yq_compose.{specs.Named.all_named, proofs.NamedLaws.{entries_named, items_named}}
use Rattle.yq_compose.proofs.names.+names.Goals as goal

pub push_entries-push_node-requires : goal.push_entries-push_node-requires
push_entries-push_node-requires t c = omega (arith, ap (λ l. parts_size (entries_end l)) c.deref-entry-items.ensures.value, entry_size c.deref-entry-items.result.now c.each.entry-index c.entry-item.result c.each-test.true c.entry-item.is)

pub push_items-push_node-requires : goal.push_items-push_node-requires
push_items-push_node-requires t c = omega (arith, ap (λ l. parts_size (items_end l)) c.deref-item-items.ensures.value, item_size c.deref-item-items.result.now c.each.item-index c.item-item.result c.each-test.true c.item-item.is)

pub push_items-each-preserved : goal.push_items-each-preserved
push_items-each-preserved t c =
    items_named c.deref-item-items.result.now c.each.item-index c.item-item.result (all_named c.each.names.items) (all_named c.push_node.new.names.items) _
    c.each-test.true c.item-item.is c.in_ok-push_node.ensures c.each.invariant

pub push_entries-each-preserved : goal.push_entries-each-preserved
push_entries-each-preserved t c =
    entries_named c.deref-entry-items.result.now c.each.entry-index c.entry-item.result (all_named c.each.names.items)
    (all_named c.push_node.new.names.items) _ c.each-test.true c.entry-item.is c.in_ok-push_node.ensures c.each.invariant
