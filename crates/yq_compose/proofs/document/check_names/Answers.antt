use Rattle.std.proofs.Common.{[], ◌&&◌, is_none, sym, ap, ◌∙◌}
use Rattle.yq_outline.{specs.LinesReading.are_bound, specs.Names.line_names, specs.Lines.lines_of_rows}
use Rattle.yq_compose.proofs.DecidingLaws.{decides_as}
use Rattle.yq_compose.proofs.document.check_names.Goals as goal

pub returns-in-Some-clause-sound : goal.returns-in-Some-clause-sound
returns-in-Some-clause-sound c = λ k. ap (λ b. b && are_bound [] (line_names (lines_of_rows k.document.rows))) (sym (ap is_none (sym c.in-Some.is) ∙ c.second_anchor.ensures k.document))

pub returns-in-None-clause-sound : goal.returns-in-None-clause-sound
returns-in-None-clause-sound c = λ k.
    decides_as c.check_aliases.result _ _
    (ap (λ b. b && are_bound [] (line_names (lines_of_rows k.document.rows))) (ap is_none (sym c.in-None.is) ∙ c.second_anchor.ensures k.document))
    (c.check_aliases.ensures.sound k)
