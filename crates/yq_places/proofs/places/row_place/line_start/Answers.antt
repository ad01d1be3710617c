use Rattle.std.proofs.Common.{rules}
use Rattle.yq_row_table.specs.View.{row_view}
use Rattle.yq_outline.proofs.LengthLaws.{row_fits, view_small}
use Rattle.yq_places.proofs.places.row_place.line_start.Goals as goal

pub overflow_add-result : goal.overflow_add-result
overflow_add-result c = search (rules, row_fits, view_small)

pub overflow_add-result-2 : goal.overflow_add-result-2
overflow_add-result-2 c = search (rules, row_fits, view_small)

pub overflow_add-result-3 : goal.overflow_add-result-3
overflow_add-result-3 c = search (rules, row_fits c.args.rows.now c.args.position.row (row_view c.row-row.result) c.row-row.ensures, view_small)
