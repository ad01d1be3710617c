use Rattle.std.proofs.Common.{◌≡◌, drop}
use Rattle.yq_core.specs.Values.{entries_of, items_of}
use Rattle.yq_edit_rules.specs.Layouts.{children_ask}
use Rattle.yq_block_edits.proofs.asked.+asks.Given as goal

abbrev pub invariant-items_ask-each : goal.invariant-items_ask-each
invariant-items_ask-each l = children_ask l.dashes (items_of (drop l.item-index l.item-items)) ≡ children_ask l.dashes (items_of l.item-items)

abbrev pub invariant-entries_ask-each : goal.invariant-entries_ask-each
invariant-entries_ask-each l = children_ask l.dashes (entries_of (drop l.entry-index l.entry-items)) ≡ children_ask l.dashes (entries_of l.entry-items)
