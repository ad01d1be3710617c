use Rattle.std.proofs.Common.{◌≡◌, rules, [], ◌∷◌, ap, ◌++◌, ◌∙◌}
use Rattle.yq_eval.{specs.PlaceView.{node_step_of, path_of}, specs.declared.matching.place.NodePath.the_lemmas}
use Rattle.yq_expr.proofs.plans.steps.step_below.Goals as goal

pub returns : goal.returns
returns c =
    let linked : path_of c.args.path ≡ path_of c.in-Below.above.now ++ node_step_of c.in-Below.step ∷ [] = ap path_of c.in-Below.is ∙ search (rules, the_lemmas) in
    linked ∙ ap (λ xs. xs ++ node_step_of c.in-Below.step ∷ []) (c.leads_by.ensures c.if-not-leads_by.false)
