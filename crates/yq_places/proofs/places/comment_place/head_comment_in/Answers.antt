use Rattle.std.proofs.Common.{arith, rules}
use Rattle.yq_row_table.specs.View.{row_view}
use Rattle.yq_outline.proofs.LengthLaws.{row_fits, view_small}
use Rattle.yq_places.proofs.places.comment_place.head_comment_in.Goals as goal

pub gap_comment-requires : goal.gap_comment-requires
gap_comment-requires c = search (rules, arith, row_fits c.args.rows.now c.args.at.row (row_view c.row.result) c.row.ensures, view_small)
