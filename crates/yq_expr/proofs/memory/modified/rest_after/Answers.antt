use Rattle.std.proofs.Common.{List, map, sym, subst}
use Rattle.yq_nodes.specs.Nodes.{node_of}
use Rattle.yq_semantics.specs.View.{stage_of}
use Rattle.yq_eval.{specs.PlaceView.places_of, specs.TreeScalars.HaveScalars, proofs.MatchLaws.places_have}
use Rattle.yq_eval.specs.declared.matching.place.FoundPlace.{FoundPlace}
use Rattle.yq_expr.proofs.memory.modified.rest_after.Goals as goal

pub count_within-requires : goal.count_within-requires
count_within-requires c =
    subst (λ (xs : List FoundPlace). HaveScalars (places_of xs)) (sym c.deref.ensures.value)
    (places_have c.args.document.doc (map stage_of c.deref-left.result.now) (node_of c.args.document.root) (places_of c.in_ok-places.places.items) c.requires c.in_ok-places.ensures)
