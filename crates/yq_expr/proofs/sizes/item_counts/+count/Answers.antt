use Rattle.std.proofs.Common.{◌≤◌, ◌∙◌, sym, ap, subst}
use Rattle.yq_core.{specs.Tree.Node, specs.Values.value_node}
use Rattle.yq_semantics.{specs.Sizes.items_in, proofs.ValueMaps.node_of-map}
use Rattle.yq_expr.proofs.sizes.item_counts.+count.Goals as goal

pub count_in-returns-in-Map : goal.count_in-returns-in-Map
count_in-returns-in-Map t c = subst (λ (n : Node). c.count_entries.result ≤ items_in n) (sym (ap value_node c.in-Map.is ∙ node_of-map c.in-Map.entries)) c.count_entries.ensures
