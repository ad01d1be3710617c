use Rattle.std.proofs.Common.{rules, ◌≡◌, List, [], ◌∷◌, ◌++◌, ap, ◌∙◌}
use Rattle.yq_eval.{specs.PlaceView.{missing_of, place_of}, specs.declared.matching.place.Missing.the_lemmas}
use Rattle.yq_semantics.{specs.Program.PathStep, specs.View.program_step}
use Rattle.yq_core.specs.Values.{value_node}
use Rattle.yq_expr.proofs.StepLists.{added_missing}
use Rattle.yq_expr.proofs.plans.effect.add.Goals as goal

pub returns-in_ok-copied-in-Further : goal.returns-in_ok-copied-in-Further
returns-in_ok-copied-in-Further c =
    let p = place_of c.args.place.now in
    let v = value_node c.args.value.now in
    let front : List PathStep = missing_of c.in-Further.field-0.now in
    let step : PathStep = program_step c.in-Further.field-1.now in
    let missed : missing_of c.args.place.now.missing ≡ front ++ step ∷ [] = ap missing_of c.in-Further.is ∙ search (rules, the_lemmas) in
    search (rules, added_missing)
