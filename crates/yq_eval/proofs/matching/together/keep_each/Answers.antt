use Rattle.std.proofs.Common.{List, sym, ap, ◌∙◌, map}
use Rattle.yq_eval.{specs.PlaceView.{place_of, places_of}, proofs.TogetherLaws.{pipe_none, place_more}}
use Rattle.yq_semantics.{specs.Judgement.gives, specs.View.stage_of}
use Rattle.yq_eval.specs.declared.matching.place.FoundPlace as declared
use Rattle.yq_eval.proofs.matching.together.keep_each.Goals as goal

pub places-init : goal.places-init
places-init c =
    pipe_none c.args.doc (map stage_of c.args.stages.now) ∙ ap (λ (ps : List declared.FoundPlace). gives (places_of ps)) (sym c.new-kept.ensures.items)

pub places-preserved : goal.places-preserved
places-preserved c =
    place_more place_of c.args.doc (map stage_of c.args.stages.now) c.args.places.now c.places.place-index c.place-item.result c.in-Some.keeps (places_of c.places.kept.items)
    c.places-test.true c.place-item.is c.in-Some.ensures c.places.invariant
    ∙ ap gives (sym c.in_ok-push_if.ensures)
