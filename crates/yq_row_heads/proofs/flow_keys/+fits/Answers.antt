use Rattle.std.proofs.Common.{arith, ap}
use Rattle.yq_core.specs.View.{entries_end, items_end}
use Rattle.yq_documents.proofs.FlowKeyLaws.{entry_is_there, item_is_there}
use Rattle.yq_outline.proofs.SizeLaws.{entry_size, item_size, parts_size}
use Rattle.yq_row_heads.proofs.flow_keys.+fits.Goals as goal

pub entries_fault-keys_fault-requires : goal.entries_fault-keys_fault-requires
entries_fault-keys_fault-requires t c = (
  omega (arith, ap (λ l. parts_size (entries_end l)) c.deref-entry-items.ensures.value, entry_size c.deref-entry-items.result.now c.each.entry-index c.entry-item.result c.each-test.true c.entry-item.is),
  entry_is_there c.args.whole.now c.deref-entry-items.result.now c.each.entry-index c.entry-item.result c.each-test.true c.entry-item.is c.each.invariant.are_there,
)

pub items_fault-keys_fault-requires : goal.items_fault-keys_fault-requires
items_fault-keys_fault-requires t c = (
  omega (arith, ap (λ l. parts_size (items_end l)) c.deref-item-items.ensures.value, item_size c.deref-item-items.result.now c.each.item-index c.item-item.result c.each-test.true c.item-item.is),
  item_is_there c.args.whole.now c.deref-item-items.result.now c.each.item-index c.item-item.result c.each-test.true c.item-item.is c.each.invariant.are_there,
)
