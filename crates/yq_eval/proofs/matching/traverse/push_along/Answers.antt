use Rattle.std.proofs.Common.{ap, ◌∙◌, sym}
use Rattle.yq_eval.{specs.PlaceView.{missing_of, place_of, places_of}, proofs.StepLaws.{one_missing, step_missed}}
use Rattle.yq_semantics.{specs.View.program_step, specs.Judgement.gives}
use Rattle.yq_eval.proofs.matching.traverse.push_along.Goals as goal

pub returns-in-Further : goal.returns-in-Further
returns-in-Further c =
    step_missed (places_of c.args.places.now.items) (program_step c.args.step.now) (program_step c.in-Further.field-1.now) (place_of c.args.place.now)
    (missing_of c.in-Further.field-0.now)
    (one_missing c.args.place.now.missing c.in-Further.field-0 c.in-Further.field-1 c.in-Further.is)
    ∙ ap gives (sym c.in_ok-push_missing.ensures)
