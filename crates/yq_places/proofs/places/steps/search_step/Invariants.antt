use Rattle.yq_places.specs.StepReading.{IsSearched}
use Rattle.yq_places.proofs.places.steps.search_step.Given as goal

-- the rows before this one were searched
abbrev pub invariant-rows : goal.invariant-rows
invariant-rows l = IsSearched l.dashes l.walk.rows.now.rows (record { first = l.walk.document.first; row = l.row; above = l.above })
