use Rattle.std.proofs.Common.{◌+◌, refl, ◌∙◌, rules}
use Rattle.yq_row_table.specs.View.{row_view}
use Rattle.yq_outline.proofs.LengthLaws.{row_fits, view_small}
use Rattle.yq_places.proofs.HeldRowLaws.{last_of}
use Rattle.yq_places.proofs.places.held_row.row_of_last.Goals as goal

pub overflow_add-result : goal.overflow_add-result
overflow_add-result c = search (rules, row_fits, view_small, c.before_head.ensures)

pub returns : goal.returns
returns c = λ d is r there.
    last_of d c.args.rows.now c.args.at r _ (row_view c.row-row.result) is c.row-row.ensures there refl
    (c.if-at-lines_before_mark.false ∙ c.lines_before_mark.ensures _ c.row-row.ensures) (λ i. c.start.ensures i + c.before_head.ensures (row_view c.row-row.result) c.row-row.ensures i) c.head-head.ensures c.tail.ensures c.is_inline.ensures
