use Rattle.std.{proofs.Common.{◌≡◌, rules, [], ◌∷◌, ap, ◌++◌, ◌∙◌}, proofs.lemmas.List.length-append}
use Rattle.yq_eval.{proofs.StepLists.pushed_back, specs.PlaceView.missing_of, specs.declared.matching.place.Missing.{Nothing, the_lemmas}}
use Rattle.yq_semantics.{specs.View.program_step, proofs.Lists.map_reverse}
use Rattle.yq_expr.proofs.plans.steps.missing_steps.Goals as goal

ends : missing_of Nothing ≡ []
ends = search (rules, the_lemmas)

pub returns : goal.returns
returns c = search (rules, map_reverse, ends)

pub steps-preserved : goal.steps-preserved
steps-preserved c =
    let linked : missing_of c.steps.rest ≡ missing_of c.in-Further.front.now ++ program_step c.in-Further.last.now ∷ [] = ap missing_of c.in-Further.is ∙ search (rules, the_lemmas) in
    search (rules, pushed_back)

pub steps-smaller : goal.steps-smaller
steps-smaller c =
    let linked : missing_of c.steps.rest ≡ missing_of c.in-Further.front.now ++ program_step c.in-Further.last.now ∷ [] = ap missing_of c.in-Further.is ∙ search (rules, the_lemmas) in
    search (rules, length-append)
