use Rattle.std.proofs.Common.{rules}
use Rattle.yq_flow_edits.proofs.ValuedLaws.{list_valid, map_valid, if_ok}
use Rattle.yq_core.proofs.NodesWrittenLaws.{node_list, node_map, list_value, map_value, between_brackets}
use Rattle.yq_flow_edits.proofs.write.+write.Goals as goal

pub push_value-returns-in_ok-push_items-in-List : goal.push_value-returns-in_ok-push_items-in-List
push_value-returns-in_ok-push_items-in-List t c = search (rules, between_brackets, node_list, list_value, if_ok, list_valid)

pub push_value-returns-in_ok-push_entries-in-Map : goal.push_value-returns-in_ok-push_entries-in-Map
push_value-returns-in_ok-push_entries-in-Map t c = search (rules, between_brackets, node_map, map_value, if_ok, map_valid)
