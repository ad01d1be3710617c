use Rattle.yq_eval.{specs.ValuesAlong.{found_or_null, leads_to_value}, proofs.EachLaws.{chain_all, chain_more}}
use Rattle.yq_semantics.specs.View.{program_step}
use Rattle.yq_eval.proofs.matching.along.value_along.Goals as goal

pub steps-preserved : goal.steps-preserved
steps-preserved c =
    chain_more program_step leads_to_value c.args.steps.now c.steps.step-index c.step-item.result (found_or_null c.steps.value) (found_or_null c.in-Some.next) _
    c.steps-test.true c.step-item.is c.in-Some.ensures c.steps.invariant

pub returns : goal.returns
returns c = chain_all program_step leads_to_value c.args.steps.now c.steps.step-index (found_or_null c.steps.value) _ c.steps-test.false c.steps.invariant
