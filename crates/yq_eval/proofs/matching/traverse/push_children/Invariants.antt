use Rattle.std.proofs.Common.{◌≡◌, ◌+◌, ◌++◌, length, map}
use Rattle.yq_core.specs.Tree.{children_of}
use Rattle.yq_nodes.{specs.Children.left_of, specs.Nodes.node_of}
use Rattle.yq_outline.specs.Counts.{count}
use Rattle.yq_eval.specs.PlaceView.{path_of, place_of, places_of}
use Rattle.yq_semantics.specs.Places.{child_place, stepped}
use Rattle.yq_eval.proofs.matching.traverse.push_children.Given as goal

abbrev pub invariant-each : goal.invariant-each
invariant-each l = record {
  path : path_of l.path ≡ path_of l.fn.place.path;
  counted : length l.initial.places.items + l.before ≡ length l.places.items;
  so_far : places_of l.places.items
      ++ map (child_place (place_of l.fn.place)) (stepped l.before (left_of l.children)) ≡ places_of l.initial.places.items
      ++ map (child_place (place_of l.fn.place)) (stepped 0 (children_of (node_of l.fn.place.node)));
}

abbrev pub decreases-each : goal.decreases-each
decreases-each l = count (left_of l.children)
