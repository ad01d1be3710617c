use Rattle.std.{proofs.Common.{◌≡◌, ℕ, ◌+◌, ◌*◌, ◌≤◌, ◌||◌, List, is_some}, specs.List.list_any}
use Rattle.yq_core.{specs.Keys.{depth, deepest}, specs.Tree.children_of, specs.Anchors.names_in}
use Rattle.yq_nodes.{specs.Children.left_of, specs.Nodes.node_of}
use Rattle.yq_outline.specs.Counts.{count}
use Rattle.yq_semantics.specs.Changes.{refers_to}
use Rattle.yq_planner.specs.Indexes.{get_text}
use Rattle.yq_planner.proofs.updating.anchors.+aliases.Given as goal

abbrev pub decreases-put_aliases : goal.decreases-put_aliases
decreases-put_aliases l = 2 * depth (node_of l.node.now) + 1

abbrev pub decreases-put_aliases_below : goal.decreases-put_aliases_below
decreases-put_aliases_below l = 2 * depth (node_of l.node.now)

abbrev pub invariant-put_aliases_below-each : goal.invariant-put_aliases_below-each
invariant-put_aliases_below-each l = record {
  counted : count (left_of l.children) ≤ count (children_of (node_of l.fn.node));
  deep : deepest (left_of l.children) ≤ deepest (children_of (node_of l.fn.node));
  so_far : (k : List ℕ) → (is_some (get_text k l.aliases) || list_any (refers_to k) (names_in (left_of l.children))) ≡ (is_some (get_text k l.initial.aliases) || list_any (refers_to k) (names_in (children_of (node_of l.fn.node))));
}

abbrev pub decreases-put_aliases_below-each : goal.decreases-put_aliases_below-each
decreases-put_aliases_below-each l = count (left_of l.children)
