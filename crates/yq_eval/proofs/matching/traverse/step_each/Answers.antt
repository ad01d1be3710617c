use Rattle.std.{proofs.Common.{Err, ap, ◌∙◌}, proofs.lemmas.Result.err_from_is_err_and}
use Rattle.yq_eval.{specs.PlaceView.{place_of, places_of}, proofs.EachLaws.{each_more, each_fails, failed, each_all}}
use Rattle.yq_semantics.specs.View.{program_step}
use Rattle.yq_semantics.specs.Places as spec
use Rattle.yq_eval.proofs.matching.traverse.step_each.Goals as goal

pub returns-in_err-push_step : goal.returns-in_err-push_step
returns-in_err-push_step c =
    let p = err_from_is_err_and c.from_residual-in_err-push_step.result c.from_residual-in_err-push_step.ensures.1 in
    failed _ _ _ _ (p.1 ∙ ap Err p.2)
    (each_fails place_of (spec.step_on (program_step c.args.step.now)) (places_of c.places.next.items) c.args.places.now c.places.place-index
    c.place-item.result _ _ c.places-test.true c.place-item.is c.in_err-push_step.ensures c.places.invariant)

pub places-preserved : goal.places-preserved
places-preserved c =
    each_more place_of (spec.step_on (program_step c.args.step.now)) (places_of c.places.next.items) (places_of c.push_step.new.places.items)
    c.args.places.now c.places.place-index c.place-item.result _ c.places-test.true c.place-item.is c.in_ok-push_step.ensures c.places.invariant

pub returns : goal.returns
returns c =
    each_all place_of (spec.step_on (program_step c.args.step.now)) (places_of c.places.next.items) c.args.places.now c.places.place-index _ c.places-test.false
    c.places.invariant
