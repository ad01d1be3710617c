use Rattle.std.proofs.Common.{arith, ap, rules}
use Rattle.yq_core.specs.View.{items_end}
use Rattle.yq_outline.proofs.SizeLaws.{entry_size, item_size, parts_size}
use Rattle.yq_documents.proofs.references.+refers.Goals as goal

pub entries_refer-node_refers-requires : goal.entries_refer-node_refers-requires
entries_refer-node_refers-requires t c = search (rules, parts_size, entry_size)

pub items_refer-node_refers-requires : goal.items_refer-node_refers-requires
items_refer-node_refers-requires t c = omega (arith, ap (λ l. parts_size (items_end l)) c.deref-item-items.ensures.value, item_size c.deref-item-items.result.now c.each.item-index c.item-item.result c.each-test.true c.item-item.is)
