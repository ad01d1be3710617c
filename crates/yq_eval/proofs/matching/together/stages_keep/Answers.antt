use Rattle.std.proofs.Common.{Bool, [], ◌∷◌, ap, ◌∙◌}
use Rattle.yq_eval.{specs.PlaceView.place_of, proofs.EachLaws.chain_all, proofs.TogetherLaws.{stage_ends, stage_more}}
use Rattle.yq_semantics.{specs.Judgement.gives, specs.Pipes.{kept_place, stage_on}, specs.View.stage_of}
use Rattle.yq_eval.proofs.matching.together.stages_keep.Goals as goal

pub stages-preserved : goal.stages-preserved
stages-preserved c =
    stage_more stage_of c.args.doc (place_of c.args.place.now) c.args.stages.now c.stages.stage-index c.stage-item.result _ c.stages-test.true c.stage-item.is
    (c.in-Some.ensures ∙ ap (λ (b : Bool). gives (kept_place (place_of c.args.place.now) b)) c.if-not-keeps.false) c.stages.invariant

pub returns-then-not-keeps : goal.returns-then-not-keeps
returns-then-not-keeps c =
    stage_ends stage_of c.args.doc (place_of c.args.place.now) c.args.stages.now c.stages.stage-index c.stage-item.result _ c.stages-test.true c.stage-item.is
    (c.in-Some.ensures ∙ ap (λ (b : Bool). gives (kept_place (place_of c.args.place.now) b)) c.if-not-keeps.true) c.stages.invariant

pub returns : goal.returns
returns c =
    chain_all stage_of (stage_on c.args.doc) c.args.stages.now c.stages.stage-index (place_of c.args.place.now ∷ []) _ c.stages-test.false c.stages.invariant
