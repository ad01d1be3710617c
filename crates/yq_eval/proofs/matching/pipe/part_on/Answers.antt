use Rattle.std.proofs.Common.{◌-◌, List, drop, length, map, refl, sym, ap, ◌∙◌, subst, take, arith}
use Rattle.yq_eval.{specs.PlaceAnswers.JudgesPlaces, specs.PlaceView.places_of, proofs.EachLaws.fails_then}
use Rattle.yq_eval.proofs.TogetherLaws.{first_stage, parts_done}
use Rattle.yq_semantics.{specs.Judgement.{MatchFails, and_then}, specs.Pipes.{pipe_on, stage_on}, specs.Places.FoundPlace}
use Rattle.yq_semantics.{specs.View.stage_of, specs.declared.program.Stage.Stage}
use Rattle.yq_eval.proofs.matching.pipe.part_on.Goals as goal

pub returns-in_default : goal.returns-in_default
returns-in_default c = parts_done stage_of c.args.doc c.args.part.now (places_of c.args.places.items) _ c.in_default.len_below refl

pub returns-in-Ok : goal.returns-in-Ok
returns-in-Ok c =
    let part : List Stage = c.args.part.now in
    let run : List Stage = take (length part - 1) (drop 1 part) in
    subst (JudgesPlaces c.run_on.result)
    (sym (first_stage stage_of c.args.doc part c.stage-item.result run (places_of c.args.places.items) (omega (arith, c.in-len1-up.len_at_least)) c.stage-item.is refl
    ∙ ap (and_then (pipe_on c.args.doc (map stage_of run))) c.in-Ok.ensures))
    c.run_on.ensures

pub returns : goal.returns
returns c =
    let part : List Stage = c.args.part.now in
    let run : List Stage = take (length part - 1) (drop 1 part) in
    let places : List FoundPlace = places_of c.args.places.items in
    subst (MatchFails c.in-Err.e)
    (sym (first_stage stage_of c.args.doc part c.stage-item.result run places (omega (arith, c.in-len1-up.len_at_least)) c.stage-item.is refl))
    (fails_then (pipe_on c.args.doc (map stage_of run)) (stage_on c.args.doc (stage_of c.stage-item.result) places) c.in-Err.e c.in-Err.ensures)
