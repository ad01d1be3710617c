use Rattle.std.{proofs.Common.{[], ◌∷◌, ◌++◌, sym, ap, ◌∙◌}, proofs.lemmas.List.map_push}
use Rattle.yq_eval.specs.PlaceView.{path_of, place_of, places_of}
use Rattle.yq_semantics.specs.Places.{FoundPlace}
use Rattle.yq_eval.proofs.matching.traverse.push_found.Goals as goal

pub returns-in_ok-push-in-Some : goal.returns-in_ok-push-in-Some
returns-in_ok-push-in-Some c =
    let items = c.args.places.now.items in
    let place = c.below.ensures (place_of c.args.place.now) (ap path_of (sym c.in_ok-path-in-Some.ensures)) in
    rw c.in-Some.is
    (ap places_of c.in_ok-push-in-Some.ensures.items
    ∙ (map_push place_of items c.below.result ∙ ap (λ (q : FoundPlace). places_of items ++ q ∷ []) place))
