use Rattle.std.proofs.Common.{Some, ap, option_map, ◌∙◌}
use Rattle.yq_places.{specs.NodesAt.node_summary, proofs.NodeAtLaws.{items_agrees, entries_agrees}}
use Rattle.yq_places.proofs.places.node_at.inline_node.Goals as goal

pub returns-in-List : goal.returns-in-List
returns-in-List c = ap Some (items_agrees c.in-Some.entry.node.now c.in-List.items c.len.result c.in-List.is c.len.ensures) ∙ ap (option_map node_summary) c.in-Some.ensures.node

pub returns-in-Map : goal.returns-in-Map
returns-in-Map c = ap Some (entries_agrees c.in-Some.entry.node.now c.in-Map.entries c.len-in-Map.result c.in-Map.is c.len-in-Map.ensures) ∙ ap (option_map node_summary) c.in-Some.ensures.node
