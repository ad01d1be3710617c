use Rattle.std.proofs.Common.{rules, ◌≡◌, List, [], ◌∷◌, map, sym, ap, ◌∙◌, subst}
use Rattle.yq_semantics.{specs.Judgement.gives, specs.Pipes.pipe_on, specs.View.stage_of}
use Rattle.yq_eval.{specs.PlaceView.{place_of, places_of}, specs.TreeScalars.HaveScalars, proofs.MatchLaws.pipe_have}
use Rattle.yq_eval.specs.declared.matching.place.FoundPlace as declared
use Rattle.yq_expr.proofs.terms.right_value.found_value.Goals as goal

pub only-requires : goal.only-requires
only-requires c =
    let started : places_of c.push.new.self.items ≡ place_of c.args.place.now ∷ [] = search rules in
    let found : pipe_on c.args.doc (map stage_of c.args.pipe.now) (place_of c.args.place.now ∷ []) ≡ gives (places_of c.in_ok-places.places.items) =
    ap (pipe_on c.args.doc (map stage_of c.args.pipe.now)) (sym started) ∙ c.in_ok-places.ensures in
    subst (λ (ps : List declared.FoundPlace). HaveScalars (places_of ps)) (sym c.deref.ensures.value)
    (pipe_have c.args.doc (map stage_of c.args.pipe.now) (place_of c.args.place.now ∷ []) (places_of c.in_ok-places.places.items) (c.requires, tt) found)
