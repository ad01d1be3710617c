use Rattle.std.{proofs.Common.{◌≡◌, rules, [], ◌∷◌, ap, ◌++◌, ◌∙◌}, proofs.lemmas.List.length-append}
use Rattle.yq_eval.{specs.PlaceView.{node_step_of, path_of}, specs.declared.matching.place.NodePath.the_lemmas}
use Rattle.yq_eval.proofs.matching.steps.path_len.Goals as goal

pub steps-smaller : goal.steps-smaller
steps-smaller c =
    let linked : path_of c.steps.rest ≡ path_of c.in-Below.front.now ++ node_step_of c.in-Below.field-1 ∷ [] = ap path_of c.in-Below.is ∙ search (rules, the_lemmas) in
    search (rules, length-append)
