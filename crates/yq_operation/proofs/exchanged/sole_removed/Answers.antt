use Rattle.std.proofs.Common.{Option, option_map, sym, ap, ◌∙◌, subst}
use Rattle.yq_core.specs.Answers.{◌>>=◌}
use Rattle.yq_documents.{specs.Located.steps_of, specs.Reading.cut_of}
use Rattle.yq_places.specs.Placements.{last_step}
use Rattle.yq_edit_rules.{specs.Answers.GivesSegments, specs.Edits.replace_segments}
use Rattle.yq_edit_laws.{specs.Emptying.{Emptied, emptied_view}, proofs.EmptyingAnswers.sole_by_emptying}
use Rattle.yq_operation.proofs.exchanged.sole_removed.Goals as goal

pub returns : goal.returns
returns c =
    let cut = cut_of c.args.cut.now in
    let empties = sym (c.in_ok-place.ensures c.args.cut.now c.requires) ∙ ap (option_map emptied_view) c.in-Some.is in
    subst (GivesSegments c.replaced.result)
    (sym (sole_by_emptying c.args.path.now.doc cut (last_step (steps_of c.args.path.now)) ∙ ap (λ (o : Option Emptied). o >>= λ e. replace_segments e.doc e.steps e.value cut) empties))
    c.replaced.ensures
