use Rattle.yq_row_table.specs.View.{row_view}
use Rattle.yq_places.proofs.HeadEnds.{head_fits, head_agrees}
use Rattle.yq_places.proofs.places.row_place.head_extent.Goals as goal

pub head_end-requires : goal.head_end-requires
head_end-requires c = head_fits c.args.rows.now c.args.i (row_view c.row-row.result) c.head_place-start.result c.requires.rows_view c.row-row.ensures c.head_place-start.ensures

pub returns : goal.returns
returns c = λ t k cut is r there. head_agrees t k c.args.rows.now c.args.i (row_view c.row-row.result) r c.head_place-start.result _ cut is c.row-row.ensures there (c.head_place-start.ensures k is r there) c.head_end.ensures
