use Rattle.std.proofs.Common.{rules, ◌≡◌, List, [], ◌∷◌, ◌++◌, ap, ◌∙◌}
use Rattle.yq_eval.{specs.PlaceView.{missing_of, path_of}, specs.declared.matching.place.Missing.the_lemmas}
use Rattle.yq_semantics.{specs.Program.PathStep, specs.View.program_step}
use Rattle.yq_expr.proofs.StepLists.{not_there}
use Rattle.yq_expr.proofs.plans.effect.set_comment.Goals as goal

pub returns-in-Further-clause-change : goal.returns-in-Further-clause-change
returns-in-Further-clause-change c =
    let front : List PathStep = missing_of c.in-Further.field-0.now in
    let step : PathStep = program_step c.in-Further.field-1.now in
    let x = path_of c.args.place.now.path in
    let missed : missing_of c.args.place.now.missing ≡ front ++ step ∷ [] = ap missing_of c.in-Further.is ∙ search (rules, the_lemmas) in
    search (rules, not_there)
