use Rattle.std.{proofs.Common.{List, Err, drop, map, ap, ◌∙◌}, proofs.lemmas.Result.err_from_is_err_and}
use Rattle.yq_semantics.{specs.Judgement.Judgement, specs.Program.PathStep, specs.View.program_step}
use Rattle.yq_eval.{specs.PlaceView.places_of, proofs.EachLaws.{chain_more, chain_fails, failed, chain_all}}
use Rattle.yq_semantics.specs.Places as spec
use Rattle.yq_eval.specs.declared.matching.place.FoundPlace as declared
use Rattle.yq_eval.proofs.matching.traverse.traverse.Goals as goal

-- what a step does to all places
abbrev on_all : PathStep → List spec.FoundPlace → Judgement (List spec.FoundPlace)
on_all s ps = spec.for_each (spec.step_on s) ps

pub returns-in_err-places : goal.returns-in_err-places
returns-in_err-places c =
    let p = err_from_is_err_and c.from_residual.result c.from_residual.ensures.1 in
    let same = ap (λ (ps : List declared.FoundPlace). spec.traverse (map program_step (drop c.steps.step-index c.args.steps.now)) (places_of ps)) c.deref.ensures.value in
    failed _ _ _ _ (p.1 ∙ ap Err p.2)
    (chain_fails program_step on_all c.args.steps.now c.steps.step-index c.step-item.result (places_of c.deref.result.now) _ _ c.steps-test.true c.step-item.is c.in_err-places.ensures (same ∙ c.steps.invariant))

pub steps-preserved : goal.steps-preserved
steps-preserved c =
    let same = ap (λ (ps : List declared.FoundPlace). spec.traverse (map program_step (drop c.steps.step-index c.args.steps.now)) (places_of ps)) c.deref.ensures.value in
    chain_more program_step on_all c.args.steps.now c.steps.step-index c.step-item.result (places_of c.deref.result.now) (places_of c.in_ok-places.places.items) _ c.steps-test.true c.step-item.is c.in_ok-places.ensures
    (same ∙ c.steps.invariant)

pub returns : goal.returns
returns c = chain_all program_step on_all c.args.steps.now c.steps.step-index (places_of c.steps.places.items) _ c.steps-test.false c.steps.invariant
