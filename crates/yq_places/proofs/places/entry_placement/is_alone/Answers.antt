use Rattle.std.proofs.Common.{sym, ◌∙◌, rules}
use Rattle.yq_row_table.specs.View.{row_view}
use Rattle.yq_places.proofs.PlacementViewLaws.{else_alone, then_alone}
use Rattle.yq_places.proofs.places.entry_placement.is_alone.Goals as goal

pub returns-then-is_empty : goal.returns-then-is_empty
returns-then-is_empty c = λ r rest is h.
    c.is_empty-then-is_empty.ensures
    ∙ then_alone r (row_view c.args.row.now) rest c.dashes.result.now c.colon.result.now is h c.dashes.ensures c.colon.ensures (sym c.is_empty.ensures ∙ c.if-is_empty.true)

pub returns-else-is_empty : goal.returns-else-is_empty
returns-else-is_empty c = search (rules, else_alone)
