use Rattle.std.proofs.Common.{◌≡◌, ◌+◌, ◌*◌, ◌≤◌, map}
use Rattle.yq_core.{specs.Values.{field_of, value_node}, specs.Keys.{depth, deepest}, specs.Tree.children_of}
use Rattle.yq_nodes.{specs.Children.left_of, specs.Nodes.node_of}
use Rattle.yq_outline.specs.Counts.{count}
use Rattle.yq_eval.{specs.PlaceView.put_after, specs.TreeScalars.EachHasScalars}
use Rattle.yq_semantics.specs.Copies as spec
use Rattle.yq_eval.proofs.matching.copy.+copy.Given as goal

abbrev pub decreases-copy : goal.decreases-copy
decreases-copy l = 2 * depth (node_of l.node.now) + 1

abbrev pub decreases-item_copies : goal.decreases-item_copies
decreases-item_copies l = 2 * depth (node_of l.node.now)

abbrev pub decreases-entry_copies : goal.decreases-entry_copies
decreases-entry_copies l = 2 * depth (node_of l.node.now)

abbrev pub invariant-item_copies-each : goal.invariant-item_copies-each
invariant-item_copies-each l = record {
  scalars : EachHasScalars (left_of l.items);
  counted : count (left_of l.items) ≤ count (children_of (node_of l.fn.node));
  deep : deepest (left_of l.items) ≤ deepest (children_of (node_of l.fn.node));
  so_far : put_after (map value_node l.copies.items) (spec.item_copies (left_of l.items)) ≡ spec.item_copies (children_of (node_of l.fn.node));
}

abbrev pub decreases-item_copies-each : goal.decreases-item_copies-each
decreases-item_copies-each l = count (left_of l.items)

abbrev pub invariant-entry_copies-each : goal.invariant-entry_copies-each
invariant-entry_copies-each l = record {
  scalars : EachHasScalars (left_of l.entries);
  counted : count (left_of l.entries) ≤ count (children_of (node_of l.fn.node));
  deep : deepest (left_of l.entries) ≤ deepest (children_of (node_of l.fn.node));
  so_far : put_after (map field_of l.copies.items) (spec.entry_copies (left_of l.entries)) ≡ spec.entry_copies (children_of (node_of l.fn.node));
}

abbrev pub decreases-entry_copies-each : goal.decreases-entry_copies-each
decreases-entry_copies-each l = count (left_of l.entries)
