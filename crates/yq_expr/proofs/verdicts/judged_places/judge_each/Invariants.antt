use Rattle.std.proofs.Common.{◌≡◌, List, drop}
use Rattle.yq_core.{specs.Tree.Node, specs.Anchors.names_of}
use Rattle.yq_semantics.{specs.Changes.{Changed, at_each}, specs.PlacesApart.AreIn}
use Rattle.yq_planner.specs.Indexes.{HasAliases}
use Rattle.yq_expr.specs.JudgedChanges.{effect_of}
use Rattle.yq_eval.{specs.PlaceView.{places_of, put_after}, specs.TreeScalars.HaveScalars}
use Rattle.yq_expr.proofs.verdicts.judged_places.judge_each.Given as goal

abbrev pub invariant-places : goal.invariant-places
invariant-places l = record {
  same : l.cut ≡ l.documents;
  scalars : HaveScalars (places_of (drop l.place-index l.places));
  within : (root : Node) → AreIn root (places_of l.places) → AreIn root (places_of (drop l.place-index l.places));
  so_far : (root : Node) → HasAliases (names_of root) l.effect.aliases.now → AreIn root (places_of l.places) → (cs : List Changed) ×
      (put_after cs (at_each root (effect_of l.effect l.documents) (places_of (drop l.place-index l.places)))
      ≡ at_each root (effect_of l.effect l.documents) (places_of l.places));
}
