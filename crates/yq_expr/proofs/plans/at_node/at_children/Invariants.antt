use Rattle.std.proofs.Common.{◌≡◌, ◌+◌, ◌-◌, map}
use Rattle.yq_core.{specs.Tree.Node, specs.Anchors.names_of}
use Rattle.yq_nodes.{specs.Children.left_of, specs.Nodes.node_of}
use Rattle.yq_outline.specs.Counts.{count}
use Rattle.yq_semantics.{specs.Changes.at_each, specs.Places.{child_place, stepped}, specs.PlacesApart.AreIn}
use Rattle.yq_documents.specs.Located.{steps_of}
use Rattle.yq_planner.{specs.Indexes.HasAliases, specs.ValidChanges.AreValidChanges, specs.ChangeView.changes_below}
use Rattle.yq_expr.specs.JudgedChanges.{effect_of}
use Rattle.yq_eval.{specs.FoundView.{child_places, place_at_path}, specs.PlaceView.{path_of, put_after}, specs.TreeScalars.HaveScalars}
use Rattle.yq_expr.proofs.plans.at_node.at_children.Given as goal

abbrev pub invariant-children : goal.invariant-children
invariant-children l =
    let left = map (child_place (place_at_path (path_of l.parent.path) (node_of l.parent.node))) (stepped l.before (left_of l.children)) in
    record {
      same : l.so_far.cut ≡ l.documents;
      counted : l.before + count (left_of l.children) ≡ l.count;
      scalars : HaveScalars left;
      valid : AreValidChanges l.so_far.changes.items;
      within : (root : Node) → AreIn root (child_places (path_of l.parent.path) (node_of l.parent.node)) → AreIn root left;
      doc : l.so_far.node.doc ≡ l.effect.doc;
      steps : steps_of l.so_far.node ≡ path_of l.parent.path;
      so_far : (root : Node) → HasAliases (names_of root) l.effect.aliases.now → AreIn root (child_places (path_of l.parent.path) (node_of l.parent.node)) →
          put_after (changes_below (path_of l.parent.path) l.so_far.changes.items) (at_each root (effect_of l.effect l.documents) left)
          ≡ at_each root (effect_of l.effect l.documents) (child_places (path_of l.parent.path) (node_of l.parent.node));
    }

abbrev pub decreases-children : goal.decreases-children
decreases-children l = l.count - l.before
