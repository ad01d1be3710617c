use Rattle.std.proofs.Common.{arith}
use Rattle.yq_row_table.specs.View.{row_view}
use Rattle.yq_places.proofs.HeadEnds.{head_fits, end_agrees}
use Rattle.yq_places.proofs.places.row_place.row_end.Goals as goal

pub ending_len-requires : goal.ending_len-requires
ending_len-requires c =
    let f = head_fits c.args.rows.now c.args.i (row_view c.row.result) c.head_place-end.result c.requires.rows_view c.row.ensures c.head_place-end.ensures in omega (arith, f)

pub overflow_add-result : goal.overflow_add-result
overflow_add-result c =
    let f = head_fits c.args.rows.now c.args.i (row_view c.row.result) c.head_place-end.result c.requires.rows_view c.row.ensures c.head_place-end.ensures in omega (arith, f, c.ending_len.ensures.within)

pub returns : goal.returns
returns c = λ k is r there. end_agrees k c.args.rows.now c.args.i (row_view c.row.result) r c.head_place-end.result _ is c.row.ensures there (c.head_place-end.ensures k is r there) c.ending_len.ensures.value
