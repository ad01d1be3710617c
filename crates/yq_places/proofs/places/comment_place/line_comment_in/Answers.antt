use Rattle.std.proofs.Common.{arith, ap, length, rules}
use Rattle.yq_row_table.specs.View.{row_view}
use Rattle.yq_outline.proofs.LengthLaws.{row_fits, view_small}
use Rattle.yq_places.proofs.places.comment_place.line_comment_in.Goals as goal

pub overflow_add-start : goal.overflow_add-start
overflow_add-start c = search (rules, row_fits, view_small, c.before_head.ensures)

pub overflow_add-start-2 : goal.overflow_add-start-2
overflow_add-start-2 c = search (rules, row_fits, view_small, c.before_head.ensures)

pub tail_comment-requires : goal.tail_comment-requires
tail_comment-requires c =
    let fits = row_fits c.args.rows.now c.args.at.row (row_view c.row-row.result) c.row-row.ensures in
    omega (arith, fits, view_small c.args.rows.now c.requires.rows_view, c.row_start.ensures, c.before_head.ensures (row_view c.row-row.result) c.row-row.ensures, ap length c.head.ensures, ap length c.tail.ensures)
