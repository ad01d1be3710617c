use Rattle.std.proofs.Common.{sym, ap, ◌∙◌}
use Rattle.yq_outline.specs.Counts.{count}
use Rattle.yq_documents.proofs.CountedLaws.{entries_count, items_count}
use Rattle.yq_nodes.proofs.nodes.node.Node.count.Goals as goal

pub returns-in-Entries : goal.returns-in-Entries
returns-in-Entries c = sym (entries_count c.in-Entries.entries.now) ∙ ap count c.in-Entries.ensures

pub returns-in-Items : goal.returns-in-Items
returns-in-Items c = sym (items_count c.in-Items.items.now) ∙ ap count c.in-Items.ensures
