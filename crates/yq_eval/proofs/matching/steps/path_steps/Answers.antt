use Rattle.std.{proofs.Common.{◌≡◌, rules, [], ◌∷◌, ap, ◌++◌, ◌∙◌}, proofs.lemmas.List.length-append}
use Rattle.yq_eval.{proofs.StepLists.pushed_back, specs.PlaceView.{node_step_of, path_of}}
use Rattle.yq_eval.specs.declared.matching.place.NodePath.{Root, the_lemmas}
use Rattle.yq_semantics.proofs.Lists.{map_reverse}
use Rattle.yq_eval.proofs.matching.steps.path_steps.Goals as goal

ends : path_of Root ≡ []
ends = search (rules, the_lemmas)

pub returns : goal.returns
returns c = search (rules, map_reverse, ends)

pub steps-preserved : goal.steps-preserved
steps-preserved c =
    let linked : path_of c.steps.rest ≡ path_of c.in-Below.front.now ++ node_step_of c.in-Below.last ∷ [] = ap path_of c.in-Below.is ∙ search (rules, the_lemmas) in
    search (rules, pushed_back)

pub steps-smaller : goal.steps-smaller
steps-smaller c =
    let linked : path_of c.steps.rest ≡ path_of c.in-Below.front.now ++ node_step_of c.in-Below.last ∷ [] = ap path_of c.in-Below.is ∙ search (rules, the_lemmas) in
    search (rules, length-append)
