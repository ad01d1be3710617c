use Rattle.std.proofs.Common.{rules, ◌≡◌, List, [], ◌∷◌, ◌++◌, sym, ap, ◌∙◌}
use Rattle.yq_nodes.specs.Nodes.{node_of}
use Rattle.yq_eval.{proofs.PlaceLaws.null_there, specs.PlaceView.missing_of, specs.declared.matching.place.Missing.the_lemmas}
use Rattle.yq_semantics.{specs.Conditions.node_there, specs.Program.PathStep, specs.View.program_step}
use Rattle.yq_eval.proofs.matching.place.FoundPlace.found.Goals as goal

pub returns-in-Further : goal.returns-in-Further
returns-in-Further c =
    let n = node_of c.args.self.now.node in
    let front : List PathStep = missing_of c.in-Further.field-0.now in
    let step : PathStep = program_step c.in-Further.field-1.now in
    let missed : missing_of c.args.self.now.missing ≡ front ++ step ∷ [] = ap missing_of c.in-Further.is ∙ search (rules, the_lemmas) in
    sym (ap (λ (ms : List PathStep). node_there ms n) missed ∙ null_there front step n)
