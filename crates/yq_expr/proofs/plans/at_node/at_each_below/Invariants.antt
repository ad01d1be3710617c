use Rattle.std.proofs.Common.{◌≡◌, drop, map}
use Rattle.yq_core.{specs.Tree.Node, specs.Anchors.names_of, specs.Entries.tree_step}
use Rattle.yq_documents.specs.Located.{steps_of}
use Rattle.yq_semantics.{specs.Changes.at_each, specs.PlacesApart.AreIn}
use Rattle.yq_planner.{specs.Indexes.HasAliases, specs.ValidChanges.AreValidChanges, specs.ChangeView.changes_below}
use Rattle.yq_expr.specs.JudgedChanges.{effect_of}
use Rattle.yq_eval.{specs.PlaceView.{places_of, put_after}, specs.TreeScalars.HaveScalars}
use Rattle.yq_expr.proofs.plans.at_node.at_each_below.Given as goal

abbrev pub invariant-places : goal.invariant-places
invariant-places l = record {
  same : l.so_far.cut ≡ l.documents;
  doc : l.so_far.node.doc ≡ l.effect.doc;
  steps : steps_of l.so_far.node ≡ map tree_step l.fn.front.items;
  valid : AreValidChanges l.so_far.changes.items;
  scalars : HaveScalars (places_of (drop l.place-index l.places));
  within : (root : Node) → AreIn root (places_of l.places) → AreIn root (places_of (drop l.place-index l.places));
  so_far : (root : Node) → HasAliases (names_of root) l.effect.aliases.now → AreIn root (places_of l.places) →
      put_after (changes_below (map tree_step l.fn.front.items) l.so_far.changes.items) (at_each root (effect_of l.effect l.documents) (places_of (drop l.place-index l.places)))
      ≡ at_each root (effect_of l.effect l.documents) (places_of l.places);
}
