use Rattle.std.proofs.Common.{List, map, sym, subst}
use Rattle.yq_nodes.specs.Nodes.{node_of}
use Rattle.yq_eval.{specs.PlaceView.places_of, specs.TreeScalars.HaveScalars, proofs.MatchLaws.places_have}
use Rattle.yq_semantics.specs.View.{stage_of}
use Rattle.yq_eval.specs.declared.matching.place.FoundPlace as declared
use Rattle.yq_eval.proofs.matched.push_found.Goals as goal

pub push_copies-requires : goal.push_copies-requires
push_copies-requires c =
    subst (λ (ps : List declared.FoundPlace). HaveScalars (places_of ps)) (sym c.deref.ensures.value)
    (places_have c.args.doc (map stage_of c.args.pipe.now) (node_of c.args.root) (places_of c.in_ok-places.places.items) c.requires c.in_ok-places.ensures)
