use Rattle.std.{proofs.Common.{◌≡◌, ◌+◌, ◌*◌, ◌≤◌, List}, specs.List.list_any}
use Rattle.yq_core.{specs.Keys.{depth, deepest}, specs.Tree.children_of, specs.Anchors.{Name, names_in}}
use Rattle.yq_nodes.{specs.Children.left_of, specs.Nodes.node_of}
use Rattle.yq_outline.specs.Counts.{count}
use Rattle.yq_semantics.specs.Changes.{is_used}
use Rattle.yq_planner.specs.Indexes.{HasAliases}
use Rattle.yq_planner.proofs.updating.anchors.+used.Given as goal

abbrev pub decreases-is_used_in : goal.decreases-is_used_in
decreases-is_used_in l = 2 * depth (node_of l.node.now) + 1

abbrev pub decreases-is_used_inside : goal.decreases-is_used_inside
decreases-is_used_inside l = 2 * depth (node_of l.node.now)

abbrev pub invariant-is_used_inside-each : goal.invariant-is_used_inside-each
invariant-is_used_inside-each l = record {
  counted : count (left_of l.children) ≤ count (children_of (node_of l.fn.node));
  deep : deepest (left_of l.children) ≤ deepest (children_of (node_of l.fn.node));
  so_far : (names : List Name) → HasAliases names l.aliases → list_any (is_used names) (names_in (left_of l.children)) ≡ list_any (is_used names) (names_in (children_of (node_of l.fn.node)));
}

abbrev pub decreases-is_used_inside-each : goal.decreases-is_used_inside-each
decreases-is_used_inside-each l = count (left_of l.children)
