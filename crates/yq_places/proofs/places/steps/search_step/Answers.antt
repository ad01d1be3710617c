use Rattle.std.proofs.Common.{sym, ap, ◌∙◌, arith}
use Rattle.yq_outline.proofs.KnownLaws.{one_there}
use Rattle.yq_places.{proofs.SearchLaws.search_goes_on, specs.StepReading.begins_under_level}
use Rattle.yq_places.proofs.places.steps.search_step.Goals as goal

pub rows-preserved : goal.rows-preserved
rows-preserved c =
    let ss = c.args.walk.now.rows.now.rows in
    let r = one_there ss c.rows.row (omega (arith, c.rows-test.true, c.requires.walk.document.are_there.within)) in
    search_goes_on c.args.dashes ss (record { first = c.args.walk.now.document.first; row = c.rows.row; above = c.rows.above }) r.0 c.last_level-above.result c.rows.invariant
    (omega (arith, c.search_from-start.ensures.order)) r.1 (ap (begins_under_level c.args.dashes c.rows.above) (sym (c.level_at-first.ensures r.0 r.1)) ∙ (sym c.begins_under.ensures ∙ c.if-begins_under.false))
    (c.last_level-above.ensures r.0 r.1)
