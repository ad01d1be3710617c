use Rattle.std.proofs.Common.{length, ap, arith}
use Rattle.yq_row_table.proofs.NearLaws.{some_row}
use Rattle.yq_outline.proofs.LengthLaws.{head_agrees, row_fits, view_small}
use Rattle.yq_row_walk.proofs.extent.head_place.Goals as goal

pub overflow_add-start : goal.overflow_add-start
overflow_add-start c =
    let x = some_row c.args.rows.now.rows c.args.i c.requires.within in
    let fits = row_fits c.args.rows.now c.args.i x.0 x.1 in
    omega (arith, fits, view_small c.args.rows.now c.requires.rows_view, c.start.ensures, c.before_head.ensures x.0 x.1)

pub overflow_add-result : goal.overflow_add-result
overflow_add-result c =
    let x = some_row c.args.rows.now.rows c.args.i c.requires.within in
    let fits = row_fits c.args.rows.now c.args.i x.0 x.1 in
    omega (arith, fits, view_small c.args.rows.now c.requires.rows_view, c.start.ensures, c.before_head.ensures x.0 x.1, ap length (c.head.ensures x.0 x.1))

pub returns : goal.returns
returns c =
    let x = some_row c.args.rows.now.rows c.args.i c.requires.within in
    head_agrees c.args.rows.now c.args.i c.start.result c.before_head.result _ x.0 x.1 c.start.ensures (c.before_head.ensures x.0 x.1) (ap length (c.head.ensures x.0 x.1))
