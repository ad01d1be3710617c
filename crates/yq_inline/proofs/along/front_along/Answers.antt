use Rattle.std.{proofs.Common.{◌+◌, ◌∷◌, List, drop, map, sym, ap, ◌∙◌}, proofs.lemmas.List.at_drop_more}
use Rattle.yq_core.{specs.Entries.tree_step, specs.declared.path.Step.Step}
use Rattle.yq_inline.{specs.Along.{all_in, front_read}, proofs.AlongLaws.none_in}
use Rattle.yq_inline.proofs.along.front_along.Goals as goal

pub steps-preserved : goal.steps-preserved
steps-preserved c =
    let left : List Step = drop (c.steps.step-index + 1) c.args.steps.now in
    let item : Step = c.step-item.result in
    ap (all_in (map tree_step left)) c.in-Some.ensures
    ∙ (ap (λ (d : Step). all_in (map tree_step (d ∷ left)) (front_read c.steps.found)) c.step-item.is
    ∙ (sym (at_drop_more (λ (l : List Step). all_in (map tree_step l) (front_read c.steps.found)) c.args.steps.now c.steps.step-index item c.steps-test.true) ∙ c.steps.invariant))

pub returns-in_default : goal.returns-in_default
returns-in_default c =
    let left : List Step = drop (c.steps.step-index + 1) c.args.steps.now in
    let item : Step = c.step-item.result in
    sym (none_in (map tree_step left)) ∙ (ap (all_in (map tree_step left)) c.in_default.ensures
    ∙ (ap (λ (d : Step). all_in (map tree_step (d ∷ left)) (front_read c.steps.found)) c.step-item.is
    ∙ (sym (at_drop_more (λ (l : List Step). all_in (map tree_step l) (front_read c.steps.found)) c.args.steps.now c.steps.step-index item c.steps-test.true) ∙ c.steps.invariant)))
