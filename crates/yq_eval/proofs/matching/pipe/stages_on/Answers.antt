use Rattle.yq_eval.{specs.PlaceView.places_of, proofs.EachLaws.{chain_all, chain_more, chain_fails}}
use Rattle.yq_semantics.specs.View.{stage_of}
use Rattle.yq_semantics.specs.Pipes as spec
use Rattle.yq_eval.proofs.matching.pipe.stages_on.Goals as goal

pub returns-in-Err : goal.returns-in-Err
returns-in-Err c =
    chain_fails stage_of (spec.stage_on c.args.doc) c.args.stages.now c.stages.stage-index c.stage-item.result (places_of c.stages.places.items) _ _
    c.stages-test.true c.stage-item.is c.in-Err.ensures c.stages.invariant

pub stages-preserved : goal.stages-preserved
stages-preserved c =
    chain_more stage_of (spec.stage_on c.args.doc) c.args.stages.now c.stages.stage-index c.stage-item.result (places_of c.stages.places.items)
    (places_of c.in-Ok.next.items) _ c.stages-test.true c.stage-item.is c.in-Ok.ensures c.stages.invariant

pub returns : goal.returns
returns c = chain_all stage_of (spec.stage_on c.args.doc) c.args.stages.now c.stages.stage-index (places_of c.stages.places.items) _ c.stages-test.false c.stages.invariant
